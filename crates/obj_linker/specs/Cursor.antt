-- Where the groups of sections end so far.
use Rattle.std.specs.Prelude.{◌≡◌, ℕ, ◌<◌, ◌≤◌, ◌^◌, if◌then◌else◌, List}
use Rattle.obj_linker.specs.declared.cursors.Cursors.{Cursors}
use Rattle.obj_linker.specs.declared.group.Group.TheVariants.{Code, Constants, Data, Zeros}
use Rattle.obj_linker.specs.declared.layout.Ends.{Ends}
use Rattle.obj_reader.specs.declared.section.Section.{Section}
use Rattle.obj_linker.specs.Layout.{is_in, next_end, section_start, code_end, text_end, data_end, zeros_end, max_text, max_data, max_zeros, text_start, data_start}

-- the ends of the groups, in segments that are not too large
pub record IsEnds (sections : List Section) (e : Ends) : Type 0 where
  pub code : e.code ≡ code_end sections
  pub text : e.text ≡ text_end sections
  pub data_is : e.data_end ≡ data_end sections
  pub zeros : e.zeros ≡ zeros_end sections
  pub behind_start : text_start ≤ code_end sections
  pub behind_code : code_end sections ≤ text_end sections
  pub behind_data : data_start ≤ data_end sections
  pub short_text : text_end sections ≤ max_text
  pub short_data : data_end sections ≤ max_data
  pub short_zeros : zeros_end sections ≤ max_zeros

-- one section more keeps to 31 bits
pub record HasRoom (c : Cursors) (s : Section) : Type 0 where
  pub code : next_end Code c.code s < 2 ^ 31
  pub constants : next_end Constants c.constants s < 2 ^ 31
  pub data_at : next_end Data c.data_at s < 2 ^ 31
  pub zeros : next_end Zeros c.zeros s < 2 ^ 31

abbrev pub moved : Cursors → Section → Cursors
moved c s = record {
  code = next_end Code c.code s;
  constants = next_end Constants c.constants s;
  data_at = next_end Data c.data_at s;
  zeros = next_end Zeros c.zeros s;
}

abbrev pub place_at : Cursors → Section → ℕ
place_at c s =
    if is_in Code s then section_start c.code s
    else (if is_in Constants s then section_start c.constants s
    else (if is_in Data s then section_start c.data_at s
    else (if is_in Zeros s then section_start c.zeros s else 0)))

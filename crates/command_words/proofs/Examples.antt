-- The definition computed on words.
use Rattle.std.proofs.Common.{◌≡◌, [], ◌∷◌, Some, None, Ok, Err, codes, refl}
use Rattle.command_forms.specs.Given.{given_after}
use Rattle.command_words.specs.Meaning.{command_of}
use Rattle.command_words.specs.declared.command.Command.TheVariants.{Go, Translate, Asm}
use Rattle.command_forms.specs.declared.usage.Usage.TheVariants.{NoCommand, NotLawful}

no_words : command_of [] ≡ Err NoCommand
no_words = refl

go_alone : command_of (codes "go" ∷ []) ≡ Err NotLawful
unfolding given_after
go_alone = refl

heap_is_too_large : command_of (codes "go" ∷ codes "a" ∷ codes "--heap" ∷ codes "32769" ∷ []) ≡ Err NotLawful
unfolding given_after
heap_is_too_large = refl

asm_is_read : command_of (codes "asm" ∷ codes "a" ∷ codes "b" ∷ []) ≡ Ok (Asm (record { word = 1; text = codes "a" }) (codes "b"))
unfolding given_after
asm_is_read = refl

go_is_read : command_of (codes "go" ∷ codes "--with=x,y" ∷ codes "a" ∷ codes "--heap" ∷ codes "0032768" ∷ codes "--keep" ∷ codes "k" ∷ codes "--" ∷ codes "--" ∷ [] ∷ [])
    ≡ Ok (Go (record { word = 2; text = codes "a" }) (codes "Main") (record { heap = 32768; stack = 64 }) 65535 None (record {
      steps = 1099511627776;
      disk = 1024;
      with = record { word = 1; names = codes "x" ∷ codes "y" ∷ [] };
      keep = record { word = 6; names = codes "k" ∷ [] };
      arguments = codes "--" ∷ [] ∷ [];
    }))
unfolding given_after
go_is_read = refl

translate_is_read_with_a_meter : command_of (codes "translate" ∷ codes "--meter=2147483647" ∷ codes "a" ∷ [])
    ≡ Ok (Translate (record { word = 2; text = codes "a" }) (codes "Main") (record { heap = 256; stack = 64 }) 65535 (Some 2147483647))
unfolding given_after
translate_is_read_with_a_meter = refl

meter_is_too_large : command_of (codes "translate" ∷ codes "a" ∷ codes "--meter" ∷ codes "2147483648" ∷ []) ≡ Err NotLawful
unfolding given_after
meter_is_too_large = refl

meter_beside_steps : command_of (codes "go" ∷ codes "a" ∷ codes "--meter=3" ∷ codes "--steps=3" ∷ []) ≡ Err NotLawful
unfolding given_after
meter_beside_steps = refl

option_twice : command_of (codes "make" ∷ codes "1" ∷ codes "--method-bytes" ∷ codes "4096" ∷ codes "--method-bytes=4096" ∷ []) ≡ Err NotLawful
unfolding given_after
option_twice = refl

end_of_list : command_of (codes "list" ∷ codes "a" ∷ codes "--" ∷ []) ≡ Err NotLawful
unfolding given_after
end_of_list = refl

-- JVM Specification, 4.7.3 and 4.9.1: the code of a method, instruction after instruction.
use Rattle.std.specs.Prelude.{ℕ, [], ◌≡◌, zero, suc, ◌+◌, ◌-◌, ◌||◌, ◌==◌, Bool, true, nat_lt, if◌then◌else◌, List, ◌∷◌, ◌++◌, length, map, Option, Some, None, Result, Ok, Err}
use Rattle.std.specs.List.{list_any, list_all}
use Rattle.class_definition.specs.declared.miss.Miss.{Miss}
use Rattle.class_definition.specs.Format.{Reading}
use Rattle.class_definition.specs.declared.line.Line.{Line}
use Rattle.class_definition.specs.declared.code_fault.CodeFault.{CodeFault}
use Rattle.class_definition.specs.declared.op.Op.{Op}
use Rattle.class_definition.specs.declared.op.Op.TheVariants.{Branch, GotoW, TableSwitch, LookupSwitch}
use Rattle.class_definition.specs.Targets.{bad_length, bad_target}
use Rattle.class_definition.specs.Instructions.{instruction}

-- ---- what code is

-- the code is the spellings of the lines, one after the other, from a place on
abbrev pub LinesFrom : ℕ → List ℕ → List Line → Type 0
LinesFrom at code [] = code ≡ []
LinesFrom at code (l ∷ lines) =
    (l.at ≡ at) × ((instruction at).fits l.op ≡ true)
    × ((rest : List ℕ) × (code ≡ (instruction at).spell l.op ++ rest)
    × LinesFrom (at + length ((instruction at).spell l.op)) rest lines)

abbrev pub Lines : List ℕ → List Line → Type 0
Lines code lines = LinesFrom 0 code lines

-- ---- the first rule that fails

abbrev pub behind_line : Line → Result (List Line) Miss → Result (List Line) Miss
behind_line l (Ok lines) = Ok (l ∷ lines)
behind_line l (Err miss) = Err miss

abbrev pub then_lines : (Op × List ℕ → Result (List Line) Miss) → Reading Op
    → Result (List Line) Miss
then_lines f (Ok x) = f x
then_lines f (Err miss) = Err miss

-- the lines of the bytes that are left of a code of so many bytes: no more lines than bytes
unfoldable pub lines_from : ℕ → ℕ → List ℕ → Result (List Line) Miss
lines_from size zero bytes = Ok []
lines_from size (suc n) bytes =
    if length bytes == 0 then Ok []
    else then_lines (λ x. behind_line (record { at = size - length bytes; op = x.0 })
    (lines_from size n x.1)) ((instruction (size - length bytes)).read bytes)

-- the offsets to which an instruction may go, but for the next one
abbrev pub targets_of : Op → List ℕ
targets_of (Branch name target) = target ∷ []
targets_of (GotoW target) = target ∷ []
targets_of (TableSwitch s) = s.default ∷ s.targets
targets_of (LookupSwitch s) = s.default ∷ map (λ p. p.target) s.pairs
targets_of _ = []

abbrev pub is_line : List Line → ℕ → Bool
is_line lines target = list_any (λ l. l.at == target) lines

-- the first of some lines with a target that is no line's offset
abbrev pub line_target_fault : List Line → List Line → Option CodeFault
line_target_fault lines [] = None
line_target_fault lines (l ∷ others) =
    if list_all (is_line lines) (targets_of l.op) then line_target_fault lines others
    else Some (record { at = l.at; kind = bad_target })

abbrev pub lines_fault : ℕ → Result (List Line) Miss → Option CodeFault
lines_fault size (Ok lines) = line_target_fault lines lines
lines_fault size (Err miss) = Some (record { at = size - miss.left; kind = miss.kind })

abbrev pub is_bad_length : ℕ → Bool
is_bad_length n = n == 0 || nat_lt 65535 n

abbrev pub code_fault : List ℕ → Option CodeFault
code_fault code =
    if is_bad_length (length code) then Some (record { at = 0; kind = bad_length })
    else lines_fault (length code) (lines_from (length code) (length code) code)

-- The names of classes, of their files and of the methods of spans.
use Rattle.std.specs.Prelude.{ℕ, List, ◌++◌, codes, decimal}

abbrev pub code_class_name : List ℕ → ℕ → List ℕ
code_class_name main i = main ++ codes "_" ++ decimal i

abbrev pub data_class_name : List ℕ → ℕ → List ℕ
data_class_name main i = main ++ codes "_D" ++ decimal i

abbrev pub file_name : List ℕ → List ℕ
file_name class = class ++ codes ".class"

abbrev pub span_name : ℕ → List ℕ
span_name k = codes "s" ++ decimal k

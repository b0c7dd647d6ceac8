-- How many bytes of code the methods of spans have, and how few spans there are.
use Rattle.std.specs.Prelude.{◌≡◌, ℕ, ◌+◌, ◌<◌, ◌≤◌, All, List, length, slice_get, Some}
use Rattle.jvm_definition.specs.declared.linked_line.LinkedLine.{LinkedLine}
use Rattle.jvm_definition.specs.declared.linked_method.LinkedMethod.{LinkedMethod}
use Rattle.jvm_definition.specs.Program.{Program}
use Rattle.method_splitter.specs.Cuts.{Cuts}
use Rattle.method_splitter.specs.declared.span.Span.{Span}
use Rattle.translate_program.specs.Classes.{Placed}
use Rattle.translate_program.specs.Spans.{weights_of}

-- a method has at most so many bytes of code: each of its instructions ends within them
abbrev pub HasBytes : ℕ → LinkedMethod → Type 0
HasBytes limit method = All (λ (l : LinkedLine). l.next ≤ limit) method.lines

-- In a program, so has the method of each span of each class.
abbrev pub AreSized : ℕ → List Placed → Program → Type 0
AreSized limit code program =
    (i k : ℕ) (c : Placed) (method : LinkedMethod) → slice_get code i ≡ Some c
    → k < length c.spans
    → program.method (c.first_method + k) ≡ Some method
    → HasBytes limit method

-- However the words of a class are divided into spans of at most so many bytes by their weights, there are no fewer spans.
abbrev pub AreLeast : ℕ → List Placed → Type 0
AreLeast limit code =
    (i : ℕ) (c : Placed) (others : List Span) → slice_get code i ≡ Some c
    → Cuts 0 (weights_of c.part c.part.words) limit others
    → length c.spans ≤ length others

-- Methods and their lines.
use Rattle.std.proofs.Common.{◌≡◌, ℕ, suc, ◌+◌, ◌<◌, ◌≤◌, Bool, true, false, List, [], ◌∷◌, ◌++◌, map, length, get_or, drop, Some, None, Result, Ok, Err, refl, sym, ap, subst, ◌∙◌, append_assoc, append-nil, add-one, arith}
use Rattle.std.specs.List.{All}
use Rattle.std.proofs.lemmas.List.Elements.{All-get_or}
use Rattle.class_definition.specs.declared.miss.Miss.{Miss}
use Rattle.class_definition.specs.Spelling.{IsBytes}
use Rattle.class_definition.specs.declared.class.Class.{Class}
use Rattle.class_definition.specs.declared.line.Line.{Line}
use Rattle.class_definition.specs.declared.method.Method.{Method}
use Rattle.class_definition.specs.Code.{Lines, lines_from, lines_fault, code_fault, is_bad_length}
use Rattle.jvm_code.specs.Writing.{AreLaid}
use Rattle.class_definition.specs.Sizes.{size_at}
use Rattle.jvm_code.proofs.DecodeLemmas.{lines_of_code as decoded_lines, good_length}
use Rattle.jvm_definition.specs.declared.linked_method.LinkedMethod.{LinkedMethod}
use Rattle.class_names.specs.declared.numbered_class.NumberedClass.{NumberedClass}
use Rattle.class_names.specs.Kept.{IsClass}
use Rattle.class_names.specs.Keys.{classes_in}
use Rattle.class_definition.specs.Linking.{lines_read, lines_of_code, linked_method, methods_from}
use Rattle.class_names.proofs.KeptLemmas.{kept_code}
use Rattle.class_names.proofs.FaultLemmas.{one_class}

-- ---- lines of code

pub code_lines : (code : List ℕ) (lines : List Line) → code_fault code ≡ None → IsBytes code → ((others : List Line) → Lines code others → others ≡ lines) → lines ≡ lines_of_code code
code_lines code lines sound bytes only = by (is_bad_length (length code)) refl (lines_from (length code) (length code) code) refl sound
  where
    by : (b : Bool) → is_bad_length (length code) ≡ b → (r : Result (List Line) Miss) → lines_from (length code) (length code) code ≡ r → code_fault code ≡ None → lines ≡ lines_of_code code
    by true bad r e none = absurd (let some : code_fault code ≡ Some (record { at = 0; kind = 5 }) = rw bad refl in cc)
    by false good (Ok found) e none = sym (only found (decoded_lines code found (good_length (length code) good) bytes e)) ∙ sym (ap lines_read e)
    by false good (Err miss) e none = absurd (let some : code_fault code ≡ lines_fault (length code) (Err miss) = rw (good, e) refl in cc)

pub laid_end : (at : ℕ) (lines : List Line) → AreLaid at lines → at ≤ 65535
laid_end at [] laid = laid
laid_end at (l ∷ lines) laid = let rest : at + size_at at l.op ≤ 65535 = laid_end (at + size_at at l.op) lines laid.2 in omega arith

-- the first line ends within the code
pub laid_first : (at : ℕ) (l : Line) (lines : List Line) → AreLaid at (l ∷ lines) → l.at + size_at l.at l.op ≤ 65535
laid_first at l lines laid =
    let rest : at + size_at at l.op ≤ 65535 = laid_end (at + size_at at l.op) lines laid.2 in
    let P : ℕ → Type 0 = λ n. n + size_at n l.op ≤ 65535 in
    subst P (sym laid.0) rest

-- ---- methods

pub sound_code : (c : Class) → IsClass c → (ms : List Method) → ms ≡ c.methods → (i : ℕ) (m : Method) → i < length ms → m ≡ get_or ms i m → code_fault m.code ≡ None
sound_code c kept ms same i m h is =
    let P : List Method → Type 0 = λ xs. All (λ (x : Method). code_fault x.code ≡ None) xs in
    let Q : Method → Type 0 = λ x. code_fault x.code ≡ None in
    subst Q (sym is) (All-get_or (λ (x : Method). code_fault x.code ≡ None) ms i m h (subst P (sym same) (kept_code c kept)))

pub methods_more : (cs : List Class) (xs : List NumberedClass) (i : ℕ) (x : NumberedClass) (before after total : List LinkedMethod) → i < length xs → x ≡ get_or xs i x
    → before ++ methods_from cs i (classes_in (drop i xs)) ≡ total → after ≡ before ++ map (linked_method cs i x.class.now) x.class.now.methods → after ++ methods_from cs (i + 1) (classes_in (drop (i + 1) xs)) ≡ total
methods_more cs xs i x before after total h is so_far made =
    let own = map (linked_method cs i x.class.now) x.class.now.methods in
    let rest = classes_in (drop (i + 1) xs) in
    (λ j. made j ++ methods_from cs (add-one i j) rest) ∙ append_assoc before own (methods_from cs (suc i) rest)
    ∙ ap (λ ds. before ++ methods_from cs i ds) (sym (one_class xs i x h is)) ∙ so_far

-- ---- a list that is made item by item of what is left

pub map_begins : {A B : Type 0} (f : A → B) (out : List B) (left all : List A) → out ≡ [] → left ≡ all → out ++ map f left ≡ map f all
map_begins f out left all e g = λ i. e i ++ map f (g i)

pub map_goes : {A B : Type 0} (f : A → B) (out after : List B) (left rest : List A) (x : A) (y : B) (total : List B) → left ≡ x ∷ rest → y ≡ f x → after ≡ out ++ y ∷ [] → out ++ map f left ≡ total → after ++ map f rest ≡ total
map_goes f out after left rest x y total e g made so_far =
    (λ i. made i ++ map f rest) ∙ append_assoc out (y ∷ []) (map f rest) ∙ (λ i. out ++ g i ∷ map f rest) ∙ ap (λ xs. out ++ map f xs) (sym e) ∙ so_far

pub map_ends : {A B : Type 0} (f : A → B) (out : List B) (left : List A) (total : List B) → left ≡ [] → out ++ map f left ≡ total → out ≡ total
map_ends f out left total e so_far = sym (append-nil out) ∙ ap (λ xs. out ++ map f xs) (sym e) ∙ so_far

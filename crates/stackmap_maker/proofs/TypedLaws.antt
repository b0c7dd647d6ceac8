-- Classes with tables that were made were typed.
use Rattle.std.proofs.Common.{◌≡◌, ℕ, zero, suc, List, [], ◌∷◌, ◌++◌, map, Some, sym, subst}
use Rattle.std.specs.Prelude.{slice_get}
use Rattle.std.proofs.lemmas.Option.{same_Some, none-some}
use Rattle.class_definition.specs.declared.entry.Entry.{Entry}
use Rattle.class_definition.specs.declared.class.Class.{Class}
use Rattle.class_definition.specs.declared.method.Method.{Method}
use Rattle.jvm_definition.specs.declared.linked_method.LinkedMethod.{LinkedMethod}
use Rattle.class_definition.specs.Linking.{linked_method, methods_from, program_of}
use Rattle.class_definition.specs.declared.framed_class.FramedClass.{FramedClass}
use Rattle.jvm_type_inference.specs.Verdict.{AllLeastTyped, LeastTyping}
use Rattle.type_verifier.specs.Typings.{listed_frames}
use Rattle.frame_maps.specs.declared.frame_error.FrameError.{FrameError}
use Rattle.frame_maps.specs.declared.frame_error.FrameError.TheVariants.{Refused, TooLarge, NoMemory}
use Rattle.stackmap_maker.specs.Full.{IsFull}
use Rattle.stackmap_maker.specs.Made.{IsMade, AreMade, AreClassesMadeFrom, AreClassesMade}
use Rattle.stackmap_maker.specs.Refusals.{IsFramesRefusal, IsFullFault}

made-typed : (cs : List Class) (number : ℕ) (c : Class) (pool : List Entry) (m n : Method) (t : List ℕ) → IsMade cs number c pool m n t → LeastTyping (program_of cs) (linked_method cs number c m)
made-typed cs number c pool m n t h =
    let least = h.is.listed.least in
    record { frames = listed_frames h.is.reached; typing = least.typing; least = least.least }

abbrev AreTyped : List Class → List LinkedMethod → Type 0
AreTyped cs methods = (k : ℕ) (method : LinkedMethod) → slice_get methods k ≡ Some method → LeastTyping (program_of cs) method

methods-typed : (cs : List Class) (number : ℕ) (c : Class) (pool : List Entry) (ms ns : List Method) (ts : List (List ℕ)) (others : List LinkedMethod) → AreMade cs number c pool ms ns ts → AreTyped cs others → AreTyped cs (map (linked_method cs number c) ms ++ others)
methods-typed cs number c pool [] [] [] others h typed k method is = typed k method is
methods-typed cs number c pool (m ∷ ms) (n ∷ ns) (t ∷ ts) others h typed zero method is =
    subst (LeastTyping (program_of cs)) (same_Some (linked_method cs number c m) method is) (made-typed cs number c pool m n t h.0)
methods-typed cs number c pool (m ∷ ms) (n ∷ ns) (t ∷ ts) others h typed (suc k) method is =
    methods-typed cs number c pool ms ns ts others h.1 typed k method is
methods-typed cs number c pool [] [] (t ∷ ts) others h typed k method is = absurd h
methods-typed cs number c pool [] (n ∷ ns) ts others h typed k method is = absurd h
methods-typed cs number c pool (m ∷ ms) [] ts others h typed k method is = absurd h
methods-typed cs number c pool (m ∷ ms) (n ∷ ns) [] others h typed k method is = absurd h

classes-typed : (cs : List Class) (number : ℕ) (xs : List Class) (fs : List FramedClass) → AreClassesMadeFrom cs number xs fs → AreTyped cs (methods_from cs number xs)
classes-typed cs number [] [] h k method is = absurd (none-some method is)
classes-typed cs number [] (f ∷ fs) h k method is = absurd h
classes-typed cs number (x ∷ xs) [] h k method is = absurd h
classes-typed cs number (x ∷ xs) (f ∷ fs) h k method is =
    methods-typed cs number x f.class.pool x.methods f.class.methods f.tables (methods_from cs (suc number) xs) h.0.methods (classes-typed cs (suc number) xs fs h.1) k method is

pub all-typed : (cs : List Class) (fs : List FramedClass) → AreClassesMade cs fs → AllLeastTyped (program_of cs)
all-typed cs fs h = classes-typed cs 0 cs fs h

pub full-refused : (cs : List Class) (class : ℕ) (error : FrameError) → IsFull cs class → IsFullFault class error → IsFramesRefusal cs error
full-refused cs class (Refused fault) full h = (h.0, h.1, subst (IsFull cs) (sym h.2) full)
full-refused cs class (TooLarge _ _) full h = absurd h
full-refused cs class NoMemory full h = absurd h

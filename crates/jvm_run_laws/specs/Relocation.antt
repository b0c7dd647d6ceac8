-- A state whose arrays stand further on, behind other arrays.
use Rattle.std.specs.Prelude.{ℕ, ◌+◌, ◌-◌, nat_lt, if◌then◌else◌, map, Option, option_map}
use Rattle.jvm_definition.specs.declared.value.Value.{Value}
use Rattle.jvm_definition.specs.declared.value.Value.TheVariants.{Array as array}
use Rattle.jvm_definition.specs.Values.{Array, ints, pages, Heap}
use Rattle.jvm_definition.specs.Step.{Frame, JvmState}

-- ---- by so many words

abbrev pub relocated_place : ℕ → Option ℕ → Option ℕ
relocated_place by place = option_map (λ p. by + p) place

abbrev pub relocated_value : ℕ → Value → Value
relocated_value by (array p) = array (by + p)
relocated_value by v = v

-- an array of arrays, whose elements stand further on
abbrev pub relocated_array : ℕ → Array → Array
relocated_array by (ints size words) = ints size words
relocated_array by (pages size places) = pages size (λ i. relocated_place by (places i))

abbrev pub relocated_frame : ℕ → Frame → Frame
relocated_frame by f = record {
  method = f.method;
  at = f.at;
  locals = λ i. relocated_value by (f.locals i);
  operands = map (relocated_value by) f.operands;
}

-- ---- behind the arrays of another heap

abbrev pub relocated_heap : Heap → Heap → Heap
relocated_heap below heap = record {
  used = below.used + heap.used;
  array_at = λ p. if nat_lt p below.used then below.array_at p
      else option_map (relocated_array below.used) (heap.array_at (p - below.used));
}

abbrev pub relocated : Heap → JvmState → JvmState
relocated below s = record {
  fields = λ f. relocated_value below.used (s.fields f);
  heap = relocated_heap below s.heap;
  frames = map (relocated_frame below.used) s.frames;
}

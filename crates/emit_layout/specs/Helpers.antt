-- The helper methods of the main class, by their numbers.
use Rattle.std.specs.Prelude.{ℕ, ◌==◌, ◌||◌, ◌&&◌, nat_lt, nat_le, if◌then◌else◌, List, codes}

abbrev pub other_name : ℕ → List ℕ
other_name number =
    if number == 12 then codes "div"
    else if number == 13 then codes "divu"
    else if number == 14 then codes "mult"
    else if number == 15 then codes "multu"
    else if number == 16 then codes "ll"
    else if number == 17 then codes "sc"
    else if number == 18 then codes "rf"
    else codes "wf"

-- the methods that store, from number 7 on, and the others
abbrev pub store_name : ℕ → List ℕ
store_name number =
    if number == 7 then codes "sw"
    else if number == 8 then codes "sh"
    else if number == 9 then codes "sb"
    else if number == 10 then codes "swl"
    else if number == 11 then codes "swr"
    else other_name number

abbrev pub helper_name : ℕ → List ℕ
helper_name number =
    if number == 0 then codes "lw"
    else if number == 1 then codes "lh"
    else if number == 2 then codes "lhu"
    else if number == 3 then codes "lb"
    else if number == 4 then codes "lbu"
    else if number == 5 then codes "lwl"
    else if number == 6 then codes "lwr"
    else store_name number

-- loads and LL; LWL, LWR, SC and the end of a load; products and quotients; stores and the end of a store
abbrev pub helper_descriptor : ℕ → List ℕ
helper_descriptor number =
    if nat_lt number 5 || number == 16 then codes "(II)I"
    else if number == 5 || number == 6 || number == 17 || number == 18 then codes "(III)I"
    else if nat_le 12 number && nat_lt number 16 then codes "(II)V"
    else codes "(III)V"

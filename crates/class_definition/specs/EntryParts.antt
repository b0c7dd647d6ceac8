-- What an entry is made of, by which entries are compared.
use Rattle.std.specs.Prelude.{ℕ, ℤ, pos, List, []}
use Rattle.class_definition.specs.declared.entry.Entry.{Entry}
use Rattle.class_definition.specs.declared.entry.Entry.TheVariants.{Utf8, Integer, Long, LongRest, ClassName, Text, FieldRef, MethodRef, NameAnd}

-- JVM Specification, 4.4: the tag, and 0 for the second slot of a Long
abbrev pub tag_of : Entry → ℕ
tag_of (Utf8 characters) = 1
tag_of (Integer n) = 3
tag_of (Long n) = 5
tag_of LongRest = 0
tag_of (ClassName name) = 7
tag_of (Text string) = 8
tag_of (FieldRef class name) = 9
tag_of (MethodRef class name) = 10
tag_of (NameAnd name descriptor) = 12

abbrev pub text_part : Entry → List ℕ
text_part (Utf8 characters) = characters
text_part _ = []

abbrev pub number_part : Entry → ℤ
number_part (Integer n) = n
number_part (Long n) = n
number_part _ = pos 0

abbrev pub first_part : Entry → ℕ
first_part (ClassName name) = name
first_part (Text string) = string
first_part (FieldRef class name) = class
first_part (MethodRef class name) = class
first_part (NameAnd name descriptor) = name
first_part _ = 0

abbrev pub second_part : Entry → ℕ
second_part (FieldRef class name) = name
second_part (MethodRef class name) = name
second_part (NameAnd name descriptor) = descriptor
second_part _ = 0

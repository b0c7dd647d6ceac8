-- The kinds of what is wrong with a class file.
use Rattle.std.specs.Prelude.{ℕ}

-- the first four bytes are not CAFEBABE
abbrev pub magic : ℕ
magic = 1

abbrev pub version : ℕ
version = 2

-- a field runs past the end
abbrev pub cut : ℕ
cut = 3

abbrev pub tag : ℕ
tag = 4

abbrev pub index : ℕ
index = 5

abbrev pub utf8 : ℕ
utf8 = 6

abbrev pub flags : ℕ
flags = 7

abbrev pub attribute : ℕ
attribute = 8

abbrev pub bad_code : ℕ
bad_code = 9

-- bytes follow the end
abbrev pub trailing : ℕ
trailing = 10

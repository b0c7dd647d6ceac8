-- The numbers of the main class's methods in the program: the helper methods, and behind them these. The methods of the classes of code
-- follow, and then those of the classes of data.
use Rattle.std.specs.Prelude.{ℕ}

abbrev pub run_number : ℕ
run_number = 20

abbrev pub choose_number : ℕ
choose_number = 21

abbrev pub pages_number : ℕ
pages_number = 22

abbrev pub missing_number : ℕ
missing_number = 23

-- how many methods the main class has
abbrev pub main_methods : ℕ
main_methods = 24

-- The statuses by their numbers, of which `Status` in code says when each comes.
use Rattle.std.specs.Prelude.{ℕ}

abbrev pub done : ℕ
done = 0

abbrev pub bad_words : ℕ
bad_words = 2

abbrev pub trapped : ℕ
trapped = 3

abbrev pub spent : ℕ
spent = 4

abbrev pub refused : ℕ
refused = 5

abbrev pub file_fault : ℕ
file_fault = 6

abbrev pub failed_put : ℕ
failed_put = 7

abbrev pub no_memory : ℕ
no_memory = 8

abbrev pub too_long : ℕ
too_long = 9

abbrev pub reported : ℕ
reported = 77

-- A tick by the digits above its last four.
use Rattle.std.proofs.Common.{◌≡◌, ◌≤◌, ◌<◌, ◌/◌, ◌%◌, ◌++◌, ℕ, List, length, drop, arith}
use Rattle.std.specs.Prelude.{decimal}
use Rattle.std.proofs.lemmas.Fmt.{length-decimal-le}
use Rattle.std.proofs.lemmas.List.{drop-append-le}
use Rattle.itoa.proofs.Decimal.{decimal_four}
use Rattle.event_log.specs.Digits.{four_digits}

pub by_upper : (n : ℕ) → 10000 ≤ n → n < 1000000000 → decimal n ≡ decimal (n / 10000) ++ four_digits (n % 10000)
by_upper n low high = decimal_four n low (omega (arith, high))

pub tick_short : (n : ℕ) → n < 1000000000 → length (decimal n) ≤ 9
tick_short n small = length-decimal-le 9 n (omega arith) (omega (arith, small)) (omega (arith, small))

pub front_gone : (n : ℕ) (xs ys : List ℕ) → n ≤ length xs → drop n (xs ++ ys) ≡ drop n xs ++ ys
front_gone n xs ys within = drop-append-le n xs ys within

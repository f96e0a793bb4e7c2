-- What is known of a call's result, in other words.
use Rattle.std.specs.Prelude.{◌≡◌, IfOk, IfSome, Option, Some, None, Result, Ok, Err}
use Rattle.std.proofs.Common.{subst}

pub ok_told : {A B E : Type 0} (r : Result A E) (f : A → B) (x y : B) → x ≡ y → IfOk r (λ a. f a ≡ x) → IfOk r (λ a. f a ≡ y)
ok_told r f x y same h = subst (λ z. IfOk r (λ a. f a ≡ z)) same h

pub ok_all : {A E : Type 0} (r : Result A E) (P Q : A → Type 0) → ((a : A) → P a → Q a) → IfOk r P → IfOk r Q
ok_all (Ok a) P Q f h = f a h
ok_all (Err e) P Q f h = h

pub some_all : {A : Type 0} (o : Option A) (P Q : A → Type 0) → ((a : A) → P a → Q a) → IfSome o P → IfSome o Q
some_all (Some a) P Q f h = f a h
some_all None P Q f h = h

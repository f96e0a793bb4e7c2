-- What a call on the outside promises, of the counts of faults and of the bytes.
use Rattle.std.specs.Prelude.{◌≡◌, ◌≢◌, ◌≤◌, ◌⊎◌, ◌+◌, ◌-◌, ◌^◌, ℕ, List, [], ◌∷◌, ◌++◌, take, drop, min, Bool, true, false, Option, Some, None}
use Rattle.std.proofs.Common.{refl, sym, ap, subst, ◌∙◌, append_assoc}
use Rattle.std.proofs.lemmas.List.{append-nil, take-append-drop}

-- what files hold by name, how many reads and writes of each name have failed, and the names that
-- were read, and that were written, oldest first: a call that failed is among them
pub record FilesState : Type 0 where
  pub held : List ℕ → Option (List ℕ)
  pub read_faults : List ℕ → ℕ
  pub write_faults : List ℕ → ℕ
  pub reads : List (List ℕ)
  pub writes : List (List ℕ)

-- what a sink has taken, where it tells, and how many of its puts have failed
pub record SinkState : Type 0 where
  pub taken : Option (List ℕ)
  pub faults : ℕ

-- all that a call finds outside
pub record Outside : Type 0 where
  pub files : FilesState
  pub out : SinkState

abbrev pub outside : FilesState → SinkState → Outside
outside files out = record { files = files; out = out }

-- a count after one more, held at the greatest u64
abbrev pub next_count : ℕ → ℕ
next_count count = min (count + 1) (2 ^ 64 - 1)

-- the count is greater than before, or stands at the greatest u64
abbrev pub Rose : ℕ → ℕ → Type 0
Rose before now = next_count before ≤ now

-- no name's count has fallen
abbrev pub NoneFell : (List ℕ → ℕ) → (List ℕ → ℕ) → Type 0
NoneFell before now = (name : List ℕ) → before name ≤ now name

-- each name's count is what it was
abbrev pub SameCounts : (List ℕ → ℕ) → (List ℕ → ℕ) → Type 0
SameCounts before now = (name : List ℕ) → now name ≡ before name

-- this name's count is one more than it was, and each other's is what it was
abbrev pub OneMore : (List ℕ → ℕ) → (List ℕ → ℕ) → List ℕ → Type 0
OneMore before now name = (now name ≡ before name + 1) × ((other : List ℕ) → other ≢ name → now other ≡ before other)

-- a failed call counts once at its name, and no other call counts
abbrev pub CountsFailure : (failed : Bool) → (List ℕ → ℕ) → (List ℕ → ℕ) → List ℕ → Type 0
CountsFailure true before now name = OneMore before now name
CountsFailure false before now name = SameCounts before now

-- the name stands behind those that were there
abbrev pub IsAdded : (before now : List (List ℕ)) → (name : List ℕ) → Type 0
IsAdded before now name = now ≡ before ++ name ∷ []

-- the same, or nothing was tried
abbrev pub IsAddedAtMost : (before now : List (List ℕ)) → (name : List ℕ) → Type 0
IsAddedAtMost before now name = IsAdded before now name ⊎ (now ≡ before)

-- each name holds what it held
abbrev pub AllStay : (List ℕ → Option (List ℕ)) → (List ℕ → Option (List ℕ)) → Type 0
AllStay before now = (name : List ℕ) → now name ≡ before name

-- each name but this one holds what it held
abbrev pub OthersStay : (List ℕ → Option (List ℕ)) → (List ℕ → Option (List ℕ)) → List ℕ → Type 0
OthersStay before now name = (other : List ℕ) → other ≢ name → now other ≡ before other

-- the bytes taken, where they are told, have these at their end
abbrev pub Appends : Option (List ℕ) → Option (List ℕ) → List ℕ → Type 0
Appends (Some before) now piece = now ≡ Some (before ++ piece)
Appends None now piece = now ≡ None

-- the same with some first bytes of the piece
abbrev pub AppendsFront : Option (List ℕ) → Option (List ℕ) → List ℕ → Type 0
AppendsFront before now piece = (front : List ℕ) × (rest : List ℕ) × (piece ≡ front ++ rest) × Appends before now front

-- what has been taken, where it is told, and then these bytes
abbrev pub with_more : Option (List ℕ) → List ℕ → Option (List ℕ)
with_more (Some taken) more = Some (taken ++ more)
with_more None more = None

-- something has been taken, where it is told
abbrev pub HasTakenSome : Option (List ℕ) → Type 0
HasTakenSome (Some taken) = taken ≢ []
HasTakenSome None = Unit {0}

-- one piece and then another is both in a row
pub Appends-append : (a b c : Option (List ℕ)) (x y : List ℕ) → Appends a b x → Appends b c y → Appends a c (x ++ y)
Appends-append (Some before) b c x y first then =
    let second : c ≡ Some ((before ++ x) ++ y) = subst (λ (o : Option (List ℕ)). Appends o c y) first then in
    second ∙ ap Some (append_assoc before x y)
Appends-append None b c x y first then = subst (λ (o : Option (List ℕ)). Appends o c y) first then

-- a front of the second piece after the whole first is a front of both
pub AppendsFront-append : (a b c : Option (List ℕ)) (x y : List ℕ) → Appends a b x → AppendsFront b c y → AppendsFront a c (x ++ y)
AppendsFront-append a b c x y first (front, rest, cut, then) =
    (x ++ front, rest, ap (λ t. x ++ t) cut ∙ sym (append_assoc x front rest), Appends-append a b c x front first then)

-- a front of the first piece is a front of both
pub AppendsFront-more : (a b : Option (List ℕ)) (x y : List ℕ) → AppendsFront a b x → AppendsFront a b (x ++ y)
AppendsFront-more a b x y (front, rest, cut, first) = (front, rest ++ y, ap (λ t. t ++ y) cut ∙ append_assoc front rest y, first)

-- where first bytes of the piece were taken, a front was
pub AppendsFront-take : (a b : Option (List ℕ)) (count : ℕ) (x : List ℕ) → Appends a b (take count x) → AppendsFront a b x
AppendsFront-take a b count x h = (take count x, drop count x, sym (take-append-drop count x), h)

pub Appends-nothing : (a : Option (List ℕ)) → Appends a a []
Appends-nothing (Some before) = ap Some (sym (append-nil before))
Appends-nothing None = refl

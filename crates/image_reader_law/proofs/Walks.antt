-- What is told of bytes by a layout, and where they then are wrong.
use Rattle.std.proofs.Common.{◌≡◌, ◌≤◌, ◌<◌, ◌⊎◌, inl, inr, ◌+◌, ◌++◌, ℕ, List, [], ◌∷◌, length, take, drop, Option, Some, None, arith, refl, ap, sym, subst, ◌∙◌, true, false, Bool, length-append}
use Rattle.std.specs.Prelude.{nat_lt, if◌then◌else◌}
use Rattle.std.proofs.lemmas.Bool.{ltb-true, ltb-false, lt-ltb, le-ltb}
use Rattle.std.proofs.lemmas.List.{take-append-drop, length-take-le}
use Rattle.std.proofs.Math.Seq.{take-append_seam, drop-append_seam}
use Rattle.image_format.specs.declared.fault.ByteFault.{ByteFault}
use Rattle.image_format.specs.Format.{fault}
use Rattle.image_reader.specs.File.{unused_fault}
use Rattle.image_reader_law.specs.Fields.{Field, size_of, Wrong, Right, Rule, Breaks, Keeps}
use Rattle.image_reader_law.specs.Layout.{Layout, done, field, rule, lacks_process}
use Rattle.image_reader_law.specs.Places.{Reaches, here, behind_field, behind_rule}
use Rattle.image_reader_law.proofs.Table.{fault_of, fault_of_rule, wrong_is, is_wrong, breaks_is, is_broken}

abbrev pub stopped : Option ℕ → (left : ℕ) → Option ByteFault → Option ByteFault
stopped (Some n) left later = Some (fault n left)
stopped None left later = later

abbrev pub walk : Layout → List ℕ → Option ByteFault
walk done [] = None
walk done (b ∷ bs) = Some (fault 3 (length (b ∷ bs)))
walk (field f next) bytes =
    if nat_lt (length bytes) (size_of f) then Some (fault 2 0)
    else stopped (fault_of f (take (size_of f) bytes)) (length bytes) (walk (next (take (size_of f) bytes)) (drop (size_of f) bytes))
walk (rule r back next) bytes = stopped (fault_of_rule r) (back + length bytes) (walk next bytes)
walk (lacks_process code) bytes = Some (fault (unused_fault code bytes) (length bytes))

-- ---- where

pub record WrongThere (f : Field) (bytes : List ℕ) (e : ByteFault) : Type 0 where
  pub value : List ℕ
  pub more : List ℕ
  pub are : bytes ≡ value ++ more
  pub long : length value ≡ size_of f
  pub number : ℕ
  pub wrong : Wrong f value number
  pub is : fault number (length bytes) ≡ e

pub record BrokenThere (r : Rule) (back : ℕ) (bytes : List ℕ) (e : ByteFault) : Type 0 where
  pub number : ℕ
  pub breaks : Breaks r number
  pub is : fault number (back + length bytes) ≡ e

abbrev pub Place : Layout → List ℕ → ByteFault → Type 0
Place done [] e = ⊥
Place done (b ∷ bs) e = fault 3 (length (b ∷ bs)) ≡ e
Place (field f next) bytes e = ((length bytes < size_of f) × (fault 2 0 ≡ e)) ⊎ WrongThere f bytes e
Place (rule r back next) bytes e = BrokenThere r back bytes e
Place (lacks_process code) bytes e = fault (unused_fault code bytes) (length bytes) ≡ e

pub record Stands (l : Layout) (bytes : List ℕ) (e : ByteFault) : Type 0 where
  pub at : Layout
  pub rest : List ℕ
  pub reaches : Reaches l bytes at rest
  pub place : Place at rest e

none_wrong : (f : Field) (v : List ℕ) → fault_of f v ≡ None → Right f v
none_wrong f v none n w = (let is = is_wrong f v n w in let e : None ≡ Some n = sym none ∙ is in cc)

none_broken : (r : Rule) → fault_of_rule r ≡ None → Keeps r
none_broken r none n w = (let is = is_broken r n w in let e : None ≡ Some n = sym none ∙ is in cc)

right_none : (f : Field) (v : List ℕ) → Right f v → fault_of f v ≡ None
right_none f v right = by (fault_of f v) refl where
  by : (o : Option ℕ) → fault_of f v ≡ o → fault_of f v ≡ None
  by None is = is
  by (Some n) is = absurd (right n (wrong_is f v n is))

kept_none : (r : Rule) → Keeps r → fault_of_rule r ≡ None
kept_none r keeps = by (fault_of_rule r) refl where
  by : (o : Option ℕ) → fault_of_rule r ≡ o → fault_of_rule r ≡ None
  by None is = is
  by (Some n) is = absurd (keeps n (breaks_is r n is))

some_is : (d e : ByteFault) → Some d ≡ Some e → d ≡ e
some_is d e h = cc

abbrev Later : Layout → List ℕ → ByteFault → Type 0
Later l bytes e = walk l bytes ≡ Some e → Stands l bytes e

pub walk_stands : (l : Layout) (bytes : List ℕ) (e : ByteFault) → walk l bytes ≡ Some e → Stands l bytes e
walk_stands done [] e is = absurd cc
walk_stands done (b ∷ bs) e is = record { at = done; rest = b ∷ bs; reaches = here done (b ∷ bs); place = some_is (fault 3 (length (b ∷ bs))) e is }
walk_stands (field f next) bytes e is = by (walk_stands (next (take (size_of f) bytes)) (drop (size_of f) bytes) e) (nat_lt (length bytes) (size_of f)) refl is where
  there : Later (next (take (size_of f) bytes)) (drop (size_of f) bytes) e → size_of f ≤ length bytes → (o : Option ℕ) → fault_of f (take (size_of f) bytes) ≡ o → stopped o (length bytes) (walk (next (take (size_of f) bytes)) (drop (size_of f) bytes)) ≡ Some e → Stands (field f next) bytes e
  there later long (Some n) was told = record {
    at = field f next;
    rest = bytes;
    reaches = here (field f next) bytes;
    place = inr (record {
      value = take (size_of f) bytes;
      more = drop (size_of f) bytes;
      are = sym (take-append-drop (size_of f) bytes);
      long = length-take-le (size_of f) bytes long;
      number = n;
      wrong = wrong_is f (take (size_of f) bytes) n was;
      is = some_is (fault n (length bytes)) e told;
    });
  }
  there later long None was told =
      let s = later told in
      record {
        at = s.at;
        rest = s.rest;
        reaches =
            subst (λ (x : List ℕ). Reaches (field f next) x s.at s.rest) (take-append-drop (size_of f) bytes)
            (behind_field (take (size_of f) bytes) (length-take-le (size_of f) bytes long) (none_wrong f (take (size_of f) bytes) was) s.reaches);
        place = s.place;
      }

  by : Later (next (take (size_of f) bytes)) (drop (size_of f) bytes) e → (b : Bool) → nat_lt (length bytes) (size_of f) ≡ b
      → (if b then Some (fault 2 0) else stopped (fault_of f (take (size_of f) bytes)) (length bytes) (walk (next (take (size_of f) bytes)) (drop (size_of f) bytes))) ≡ Some e
      → Stands (field f next) bytes e
  by later true short told = record { at = field f next; rest = bytes; reaches = here (field f next) bytes; place = inl (ltb-true (length bytes) (size_of f) short, some_is (fault 2 0) e told) }
  by later false long told = there later (ltb-false (length bytes) (size_of f) long) (fault_of f (take (size_of f) bytes)) refl told
walk_stands (rule r back next) bytes e is = by (walk_stands next bytes e) (fault_of_rule r) refl is where
  by : Later next bytes e → (o : Option ℕ) → fault_of_rule r ≡ o → stopped o (back + length bytes) (walk next bytes) ≡ Some e → Stands (rule r back next) bytes e
  by later (Some n) was told = record {
    at = rule r back next;
    rest = bytes;
    reaches = here (rule r back next) bytes;
    place = record { number = n; breaks = breaks_is r n was; is = some_is (fault n (back + length bytes)) e told };
  }
  by later None was told = (let s = later told in record { at = s.at; rest = s.rest; reaches = behind_rule (none_broken r was) s.reaches; place = s.place })
walk_stands (lacks_process code) bytes e is = record { at = lacks_process code; rest = bytes; reaches = here (lacks_process code) bytes; place = some_is (fault (unused_fault code bytes) (length bytes)) e is }

-- ---- and back

walk_field : (f : Field) (next : List ℕ → Layout) (value more : List ℕ) → length value ≡ size_of f → walk (field f next) (value ++ more) ≡ stopped (fault_of f value) (length (value ++ more)) (walk (next value) more)
walk_field f next value more long =
    let enough : nat_lt (length (value ++ more)) (size_of f) ≡ false = le-ltb (length (value ++ more)) (size_of f) (omega (arith, long, length-append value more)) in
    let front : take (size_of f) (value ++ more) ≡ value = ap (λ n. take n (value ++ more)) (sym long) ∙ take-append_seam value more in
    let back : drop (size_of f) (value ++ more) ≡ more = ap (λ n. drop n (value ++ more)) (sym long) ∙ drop-append_seam value more in
    rw (enough, front, back) refl

at_place : (l : Layout) (bytes : List ℕ) (e : ByteFault) → Place l bytes e → walk l bytes ≡ Some e
at_place done [] e p = absurd p
at_place done (b ∷ bs) e p = ap Some p
at_place (field f next) bytes e (inl p) = rw (lt-ltb (length bytes) (size_of f) p.0) (ap Some p.1)
at_place (field f next) bytes e (inr p) =
    ap (λ x. walk (field f next) x) p.are ∙ (walk_field f next p.value p.more p.long
    ∙ (ap (λ o. stopped o (length (p.value ++ p.more)) (walk (next p.value) p.more)) (is_wrong f p.value p.number p.wrong)
    ∙ (ap (λ (x : List ℕ). Some (fault p.number (length x))) (sym p.are) ∙ ap Some p.is)))
at_place (rule r back next) bytes e p = ap (λ o. stopped o (back + length bytes) (walk next bytes)) (is_broken r p.number p.breaks) ∙ ap Some p.is
at_place (lacks_process code) bytes e p = ap Some p

pub stands_walk : (l : Layout) (bytes : List ℕ) (m : Layout) (rest : List ℕ) (e : ByteFault) → Reaches l bytes m rest → Place m rest e → walk l bytes ≡ Some e
stands_walk l bytes m rest e (here _ _) place = at_place l bytes e place
stands_walk l bytes m rest e (behind_field {f = f} {next = next} value {bytes = more} long right r) place =
    walk_field f next value more long ∙ (ap (λ o. stopped o (length (value ++ more)) (walk (next value) more)) (right_none f value right) ∙ stands_walk (next value) more m rest e r place)
stands_walk l bytes m rest e (behind_rule {r = r} {back = back} {next = next} keeps more) place =
    ap (λ o. stopped o (back + length bytes) (walk next bytes)) (kept_none r keeps) ∙ stands_walk next bytes m rest e more place

-- The table of an image that declares what its text says.
use Rattle.std.specs.Prelude.{◌≡◌, ◌≤◌, ◌<◌, ℕ, zero, suc, List, [], ◌∷◌, Some, take, slice_get, is_some}
use Rattle.std.proofs.Common.{refl, sym, ap, subst, ◌∙◌, arith}
use Rattle.std.proofs.lemmas.Option.{slice_get_within}
use Rattle.base.proofs.Lists.{take_get}
use Rattle.syntax_tree.specs.Plain.{Program}
use Rattle.source_semantics.specs.Names.{routine_count}
use Rattle.machine_isa.specs.declared.instr.Instr.{Instr}
use Rattle.machine_semantics.specs.Image as image
use Rattle.valid_image.specs.Found.{Known, amount}
use Rattle.valid_image.specs.Tables.{known_of, known, found_or_nothing, count as count_of}
use Rattle.code_spec.specs.Layout.{count, routine_words}
use Rattle.code_spec.specs.Numbering.{Text, numbered, number_of}
use Rattle.code_spec.specs.Compiled.{IsRoutine, EmitsRoutine, EmitsRoutines, IsCodeOf}
use Rattle.code_cost_spec.specs.Costs.{routine_cost}
use Rattle.code_cost_spec.specs.Heights.{routine_height}
use Rattle.code_cost_spec.specs.Levels.{routine_names, calls_at, cost_of_routine}
use Rattle.code_measures.specs.Sound.{IsKnown}
use Rattle.code_measures.specs.Measured.{IsMeasured}
use Rattle.code_measures.proofs.Parts.{routines_are_measured}
use Rattle.code_measures.specs.Like.{Like}
use Rattle.code_measures.specs.Declared.{IsBelow, IsSound, Declares, declared_calls}
use Rattle.code_measures.proofs.Capped.{like_back, like_on, capped_like}
use Rattle.code_measures.proofs.Likes.{Same, CallsSame, routine_same}
use Rattle.code_measures.proofs.Firsts.{row_is}
use Rattle.code_measures.proofs.Maps.{map_routine}

-- ---- levels

pub cost_at : (n : ℕ) (g : Program) (t : Text) → (calls_at (suc n) g).cost t ≡ routine_cost g (routine_names g t) (calls_at n g) t
unfolding calls_at
cost_at n g t = refl

pub height_at : (n : ℕ) (g : Program) (t : Text) → (calls_at (suc n) g).height t ≡ routine_height g t.owner (calls_at n g) t.routine
unfolding calls_at
height_at n g t = refl

-- ---- a routine of the image

pub record Stands (g : Program) (m : image.Image) (r : ℕ) (t : Text) : Type 0 where
  pub x : image.Routine
  pub there : slice_get m.routines r ≡ Some x
  pub is_r : IsRoutine g t x
  pub next : ℕ
  pub emits : EmitsRoutine g m.code t x.start next

stands_at : (g : Program) (code : List Instr) (p q : ℕ) (ts : List Text) (rs : List image.Routine) (r : ℕ) (t : Text) → EmitsRoutines g code p q ts rs → slice_get ts r ≡ Some t
    → (x : image.Routine) × (next : ℕ) × (slice_get rs r ≡ Some x) × IsRoutine g t x × EmitsRoutine g code t x.start next
stands_at g code p q [] rs r t h at = absurd cc
stands_at g code p q (u ∷ us) [] r t h at = absurd h
stands_at g code p q (u ∷ us) (y ∷ ys) zero t h at =
    let same : u ≡ t = cc in (y, h.0, refl, subst (λ z. IsRoutine g z y) same h.1, subst (λ z. EmitsRoutine g code z y.start h.0) same (subst (λ a. EmitsRoutine g code u a h.0) (sym h.2) h.3))
stands_at g code p q (u ∷ us) (y ∷ ys) (suc r) t h at = stands_at g code h.0 q us ys r t h.4 at

pub stands : (g : Program) (m : image.Image) → IsCodeOf g m → (r : ℕ) (t : Text) → slice_get (numbered g) r ≡ Some t → Stands g m r t
stands g m is r t at = let s = stands_at g m.code 0 is.between (numbered g) m.routines r t is.routine_code at in record { x = s.0; there = s.2; is_r = s.3; next = s.1; emits = s.4 }

-- ---- its row

module _ (g : Program) (m : image.Image) (is : IsCodeOf g m) (sound : IsSound g) (declares : Declares g m) where
  pub record RowIs (r : ℕ) (t : Text) : Type 0 where
    pub row : Known
    pub there : slice_get (known m) r ≡ Some row
    pub params : row.params ≡ count t.routine.params
    pub results : row.results ≡ count_of (is_some t.routine.answers)
    pub locals : row.locals ≡ routine_words g t.routine
    pub height : row.depth ≡ (declared_calls g).height t
    pub cost : row.cost ≡ (declared_calls g).cost t
    pub same : (n : ℕ) → r < n → Same ((declared_calls g).cost t) ((calls_at n g).cost t) ((declared_calls g).height t) ((calls_at n g).height t)

  pub record RoutineIs (r : ℕ) (t : Text) : Type 0 where
    pub stand : Stands g m r t
    pub measured : IsMeasured g m.code (take r (known m)) (declared_calls g) t stand.x stand.next
    pub calls : (n : ℕ) → r ≤ n → CallsSame (λ y. IsBelow g r y) (declared_calls g) (calls_at n g)

  -- those before it are known
  pub known_before : (r : ℕ) → ((q : ℕ) (t : Text) → q < r → slice_get (numbered g) q ≡ Some t → RowIs q t) → (t : Text) → IsBelow g r t → IsKnown g (take r (known m)) (declared_calls g) t
  known_before r before t low =
      let b = before (number_of g t) t low.low low.there in
      record { known_as = b.row; there = take_get r (number_of g t) (known m) low.low ∙ b.there; params = b.params; results = b.results; locals = b.locals; height = b.height; cost = b.cost }

  routine_is : (r : ℕ) → ((q : ℕ) (t : Text) → q < r → slice_get (numbered g) q ≡ Some t → RowIs q t) → (t : Text) → slice_get (numbered g) r ≡ Some t → RoutineIs r t
  routine_is r before t at =
      let s = stands g m is r t at in
      record {
        stand = s;
        measured = routines_are_measured g m.code (take r (known m)) (declared_calls g) t s.x s.next s.is_r s.emits
            (map_routine g (λ y. IsBelow g r y) (λ y. IsKnown g (take r (known m)) (declared_calls g) y) (λ u low. known_before r before u low) t (sound.routines r t at));
        calls = λ n le u low. (before (number_of g u) u low.low low.there).same n (further low.low le);
      }
    where
      further : {a b c : ℕ} → a < b → b ≤ c → a < c
      further lt le = omega (arith, lt, le)

  row_of : (r : ℕ) → ((q : ℕ) (t : Text) → q < r → slice_get (numbered g) q ≡ Some t → RowIs q t) → (t : Text) → slice_get (numbered g) r ≡ Some t → RowIs r t
  row_of r before t at =
      let i = routine_is r before t at in
      let d = declares.routines r t i.stand.x at i.stand.there in
      let deep : r ≤ routine_count g = omega (arith, slice_get_within (numbered g) r t at, sound.few) in
      let here = routine_same g (λ y. IsBelow g r y) (declared_calls g) (calls_at (routine_count g) g) (i.calls (routine_count g) deep) t (sound.routines r t at) in
      record {
        row = known_of m.code (take r (known m)) i.stand.x;
        there = row_is (known_of m.code) m.routines r i.stand.x i.stand.there;
        params = i.stand.is_r.params;
        results = ap (λ b. count_of b) i.stand.is_r.gives;
        locals = i.stand.is_r.locals;
        height = ap (λ o. (found_or_nothing o).depth) i.measured.is ∙ (i.measured.height ∙ here.height);
        cost = costs d.run d.susp d.waits;
        same = λ n lt. at_level i at here n lt;
      }
    where
      costs : {a b c a' b' c' : ℕ} → a ≡ a' → b ≡ b' → c ≡ c' → amount a b c ≡ amount a' b' c'
      costs {a} {b} {c} {a'} {b'} {c'} e1 e2 e3 = ap (λ x. amount x b c) e1 ∙ (ap (λ x. amount a' x c) e2 ∙ ap (λ x. amount a' b' x) e3)

      at_level : (i : RoutineIs r t) → slice_get (numbered g) r ≡ Some t
          → Same (routine_cost g (routine_names g t) (declared_calls g) t) (routine_cost g (routine_names g t) (calls_at (routine_count g) g) t) (routine_height g t.owner (declared_calls g) t.routine) (routine_height g t.owner (calls_at (routine_count g) g) t.routine)
          → (n : ℕ) → r < n → Same ((declared_calls g).cost t) ((calls_at n g).cost t) ((declared_calls g).height t) ((calls_at n g).height t)
      at_level i at here zero lt = absurd (omega (arith, lt))
      at_level i at here (suc n) lt =
          let there = routine_same g (λ y. IsBelow g r y) (declared_calls g) (calls_at n g) (i.calls n (omega (arith, lt))) t (sound.routines r t at) in
          record {
            cost = subst (λ c. Like ((declared_calls g).cost t) c) (sym (cost_at n g t)) (like_on _ _ _ (capped_like (cost_of_routine g t)) (like_on _ _ _ (like_back _ _ here.cost) there.cost));
            height = sym here.height ∙ (there.height ∙ sym (height_at n g t));
          }

  row_below : (n r : ℕ) (t : Text) → r < n → slice_get (numbered g) r ≡ Some t → RowIs r t
  row_below zero r t lt at = absurd (omega (arith, lt))
  row_below (suc n) r t lt at = row_of r (λ q u less there. row_below n q u (omega (arith, less, lt)) there) t at

  -- each routine has its row
  pub row : (r : ℕ) (t : Text) → slice_get (numbered g) r ≡ Some t → RowIs r t
  row r t at = row_below (suc r) r t (omega arith) at

  -- and is measured by those before it
  pub routine : (r : ℕ) (t : Text) → slice_get (numbered g) r ≡ Some t → RoutineIs r t
  routine r t at = routine_is r (λ q u less there. row q u there) t at

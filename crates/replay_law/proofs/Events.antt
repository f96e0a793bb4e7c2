-- The events of an image: each is of one process, and has its frame.
use Rattle.std.proofs.Common.{◌≡◌, ◌≤◌, ◌<◌, ◌+◌, ◌&&◌, ◌==◌, ◌∙◌, inl, inr, not, ℕ, zero, suc, Bool, true, false, cond, List, [], ◌∷◌, map, filter_map, Some, bytes_eq, arith, refl, ap, sym, subst}
use Rattle.std.specs.Prelude.{Contains, count_by, if◌then◌else◌, nat_eq, slice_get}
use Rattle.std.proofs.lemmas.Bool.{cases_Bool, eq-eqb, ne_eqb}
use Rattle.std.proofs.lemmas.List.Sums.{sum_by-cons}
use Rattle.base.proofs.Members.{at_front, behind, front_or_behind, none_in}
use Rattle.machine_isa.specs.declared.instr.Instr.{Instr}
use Rattle.syntax_tree.specs.Plain as tree
use Rattle.syntax_tree.specs.Plain.{Name, Trigger, periodic, at_event, Declaration, constant, device, event, routine, monitor, process, Program}
use Rattle.source_semantics.specs.Names.{event_in, event_number, frame_of, place_of, processes}
use Rattle.machine_semantics.specs.Image.{Process}
use Rattle.image_reader.specs.File as f
use Rattle.built_image.specs.Named.{frame_released}
use Rattle.codegen_law.proofs.NameNumbers.{name_is, name_same}
use Rattle.code_spec.specs.Compiled.{EmitsProcesses, IsReleased}
use Rattle.codegen_law.proofs.Counts.{one_low}
use Rattle.static_semantics.specs.WellFormed.{ActivationFits, is_event_of}
use Rattle.wellformed_law.proofs.Members.{In}
use Rattle.replay_law.proofs.Differing.{Differing}

-- ---- where an event stands

front_stands : (n e : Name) (ns : List Name) → bytes_eq n e ≡ true → slice_get (n ∷ ns) (place_of e (n ∷ ns)) ≡ Some e
front_stands n e ns is = ap (λ (b : Bool). slice_get (n ∷ ns) (cond b 0 (suc (place_of e ns)))) is ∙ ap (λ (x : Name). Some x) (name_same n e is)

back_stands : (n e : Name) (ns : List Name) → bytes_eq n e ≡ false → slice_get ns (place_of e ns) ≡ Some e → slice_get (n ∷ ns) (place_of e (n ∷ ns)) ≡ Some e
back_stands n e ns is_not rest = ap (λ (b : Bool). slice_get (n ∷ ns) (cond b 0 (suc (place_of e ns)))) is_not ∙ rest

-- a name that is among these stands at its place
stands : (e : Name) (ns : List Name) → In ns e → slice_get ns (place_of e ns) ≡ Some e
stands e [] i = absurd i
stands e (n ∷ ns) (inl same) = front_stands n e ns (ap (λ (x : Name). bytes_eq x e) same ∙ name_is e)
stands e (n ∷ ns) (inr more) = elim (cases_Bool (bytes_eq n e)) [
  | inl is ↦ front_stands n e ns is
  | inr is_not ↦ back_stands n e ns is_not (stands e ns more)
]

declared : (e : Name) (ds : List Declaration) → Contains ds (event e) → In (filter_map event_in ds) e
declared e [] h = absurd (none_in (event e) h)
declared e (constant n c ∷ ds) h = elim (front_or_behind (constant n c) ds (event e) h) [ inl is ↦ absurd cc | inr more ↦ declared e ds more ]
declared e (device n o ∷ ds) h = elim (front_or_behind (device n o) ds (event e) h) [ inl is ↦ absurd cc | inr more ↦ declared e ds more ]
declared e (routine r ∷ ds) h = elim (front_or_behind (routine r) ds (event e) h) [ inl is ↦ absurd cc | inr more ↦ declared e ds more ]
declared e (monitor m ∷ ds) h = elim (front_or_behind (monitor m) ds (event e) h) [ inl is ↦ absurd cc | inr more ↦ declared e ds more ]
declared e (process p ∷ ds) h = elim (front_or_behind (process p) ds (event e) h) [ inl is ↦ absurd cc | inr more ↦ declared e ds more ]
declared e (event n ∷ ds) h = elim (front_or_behind (event n) ds (event e) h) [ inl is ↦ (let same : n ≡ e = cc in inl same) | inr more ↦ inr (declared e ds more) ]

-- and what is named among them is declared
pub declares : (e : Name) (ds : List Declaration) → In (filter_map event_in ds) e → Contains ds (event e)
declares e [] i = absurd i
declares e (constant n c ∷ ds) i = behind (constant n c) ds (event e) (declares e ds i)
declares e (device n o ∷ ds) i = behind (device n o) ds (event e) (declares e ds i)
declares e (routine r ∷ ds) i = behind (routine r) ds (event e) (declares e ds i)
declares e (monitor m ∷ ds) i = behind (monitor m) ds (event e) (declares e ds i)
declares e (process p ∷ ds) i = behind (process p) ds (event e) (declares e ds i)
declares e (event n ∷ ds) (inl same) = subst (λ (x : Name). Contains (event n ∷ ds) (event x)) same (at_front (event n) ds)
declares e (event n ∷ ds) (inr i) = behind (event n) ds (event e) (declares e ds i)

pub among : (ns : List Name) (k : ℕ) (e : Name) → slice_get ns k ≡ Some e → In ns e
among [] k e at = absurd cc
among (n ∷ ns) zero e at = let same : n ≡ e = cc in inl same
among (n ∷ ns) (suc k) e at = inr (among ns k e at)

-- where no two are the same, a name has one place
pub one_place : (ns : List Name) → Differing ns → (j k : ℕ) (e : Name) → slice_get ns j ≡ Some e → slice_get ns k ≡ Some e → j ≡ k
one_place [] differ j k e a b = absurd cc
one_place (n ∷ ns) differ zero zero e a b = refl
one_place (n ∷ ns) differ zero (suc k) e a b = let same : n ≡ e = cc in absurd (differ.0 e (among ns k e b) same)
one_place (n ∷ ns) differ (suc j) zero e a b = let same : n ≡ e = cc in absurd (differ.0 e (among ns j e a) same)
one_place (n ∷ ns) differ (suc j) (suc k) e a b = ap (λ (i : ℕ). suc i) (one_place ns differ.1 j k e a b)

module _ (p : Program) (differ : Differing (filter_map event_in p.decls)) where
  abbrev events : List Name
  events = filter_map event_in p.decls

  pub event_at : (e : Name) → Contains p.decls (event e) → slice_get events (event_number p e) ≡ Some e
  event_at e there = stands e events (declared e p.decls there)

  -- ---- the process of an event

  -- the event at this place releases the process exactly where the text says so
  test_same : (at : ℕ) (e : Name) (a : Trigger) (x : Process) → slice_get events at ≡ Some e → ActivationFits p a → IsReleased p a x → (not (x.kind == 0) && nat_eq x.event at) ≡ is_event_of e a
  test_same at e (periodic frame deadline first) x here fits is = ap (λ (k : ℕ). not (k == 0) && nat_eq x.event at) is.0
  test_same at e (at_event n frame deadline) x here fits is = ap (λ (k : ℕ). not (k == 0) && nat_eq x.event at) is.0 ∙ by (bytes_eq n e) refl where
    there : slice_get events x.event ≡ Some n
    there = ap (λ (k : ℕ). slice_get events k) is.2 ∙ event_at n fits.0

    by : (b : Bool) → bytes_eq n e ≡ b → nat_eq x.event at ≡ b
    by true same = eq-eqb x.event at (one_place events differ x.event at e (there ∙ ap (λ (y : Name). Some y) (name_same n e same)) here)
    by false other = ne_eqb x.event at (λ same.
        let both : Some n ≡ Some e = sym there ∙ (ap (λ (k : ℕ). slice_get events k) same ∙ here) in
        let one : n ≡ e = cc in
        let clash : true ≡ false = sym (ap (λ (y : Name). bytes_eq y e) one ∙ name_is e) ∙ other in
        cc)

  frame_same : (at : ℕ) (e : Name) (code : List Instr) (k a b : ℕ) (ts : List tree.Process) (xs : List Process) → slice_get events at ≡ Some e → EmitsProcesses p code k a b ts xs
      → ((i : ℕ) (t : tree.Process) → slice_get ts i ≡ Some t → ActivationFits p t.activation) → f.frame_for at xs ≡ frame_released p e ts
  frame_same at e code k a b [] [] here emits fit = refl
  frame_same at e code k a b [] (x ∷ xs) here emits fit = absurd emits
  frame_same at e code k a b (t ∷ ts) [] here emits fit = absurd emits
  frame_same at e code k a b (t ∷ ts) (x ∷ xs) here emits fit =
      by (not (x.kind == 0) && nat_eq x.event at) (is_event_of e t.activation) (test_same at e t.activation x here (fit 0 t refl) emits.1.released) emits.1.frame
      (frame_same at e code (suc k) emits.0 b ts xs here emits.2 (λ i u there. fit (suc i) u there))
    where
      by : (b c : Bool) → b ≡ c → x.frame ≡ frame_of p t.activation → f.frame_for at xs ≡ frame_released p e ts → (if b then x.frame else f.frame_for at xs) ≡ cond c (frame_of p t.activation) (frame_released p e ts)
      by true true same own rest = own
      by true false same own rest = absurd cc
      by false true same own rest = absurd cc
      by false false same own rest = rest

  module _ (code : List Instr) (a b : ℕ) (xs : List Process) (emits : EmitsProcesses p code 0 a b (processes p) xs) (fit : (i : ℕ) (t : tree.Process) → slice_get (processes p) i ≡ Some t → ActivationFits p t.activation) where
    -- the frames that stand at the events
    pub frames_are : (at : ℕ) (ns : List Name) → ((i : ℕ) (e : Name) → slice_get ns i ≡ Some e → slice_get events (at + i) ≡ Some e)
        → f.framed at ns xs ≡ map (λ (e : Name). record { name = e; frame = frame_released p e (processes p) }) ns
    frames_are at [] there = refl
    frames_are at (n ∷ ns) there =
        let first : slice_get events at ≡ Some n = ap (λ (k : ℕ). slice_get events k) (let e : at ≡ at + 0 = omega arith in e) ∙ there 0 n refl in
        let rest = frames_are (at + 1) ns (λ i e is. ap (λ (k : ℕ). slice_get events k) (let e : at + 1 + i ≡ at + suc i = omega arith in e) ∙ there (suc i) e is) in
        rw (frame_same at n code 0 a b (processes p) xs first emits fit, rest) refl

  -- ---- events that are used

  abbrev tests : Name → tree.Process → Bool
  tests e t = is_event_of e t.activation

  abbrev worth : Bool → ℕ
  worth b = cond b 1 0

  pub some_hit : (e : Name) (ts : List tree.Process) → count_by (tests e) ts ≡ 1 → (k : ℕ) × (t : tree.Process) × (slice_get ts k ≡ Some t) × (tests e t ≡ true)
  some_hit e [] one = absurd cc
  some_hit e (t ∷ ts) one = elim (cases_Bool (tests e t)) [
    | inl hit ↦ (0, t, refl, hit)
    | inr miss ↦
        let more : count_by (tests e) (t ∷ ts) ≡ worth (tests e t) + count_by (tests e) ts = sum_by-cons (λ (y : tree.Process). worth (tests e y)) t ts in
        let head : worth (tests e t) ≡ 0 = ap (λ (b : Bool). worth b) miss in
        let rest = some_hit e ts (omega (arith, more, head, one)) in
        (suc rest.0, rest.1, rest.2, rest.3)
  ]

  -- two processes of one event would be two
  pub one_hit : (e : Name) (ts : List tree.Process) (j k : ℕ) (t u : tree.Process) → count_by (tests e) ts ≡ 1 → j < k → slice_get ts j ≡ Some t → slice_get ts k ≡ Some u → tests e t ≡ true → tests e u ≡ true → ⊥
  one_hit e [] j k t u one low a b first second = absurd cc
  one_hit e (x ∷ xs) j zero t u one low a b first second = omega (arith, low)
  one_hit e (x ∷ xs) zero (suc k) t u one low a b first second =
      let same : x ≡ t = cc in
      let more : count_by (tests e) (x ∷ xs) ≡ worth (tests e x) + count_by (tests e) xs = sum_by-cons (λ (y : tree.Process). worth (tests e y)) x xs in
      let head : worth (tests e x) ≡ 1 = ap (λ (y : tree.Process). worth (tests e y)) same ∙ ap (λ (b : Bool). worth b) first in
      let some : worth (tests e u) ≤ count_by (tests e) xs = one_low (λ (y : tree.Process). worth (tests e y)) xs k u b in
      let own : worth (tests e u) ≡ 1 = ap (λ (b : Bool). worth b) second in
      omega (arith, more, head, some, own, one)
  one_hit e (x ∷ xs) (suc j) (suc k) t u one low a b first second =
      let more : count_by (tests e) (x ∷ xs) ≡ worth (tests e x) + count_by (tests e) xs = sum_by-cons (λ (y : tree.Process). worth (tests e y)) x xs in
      let some : worth (tests e u) ≤ count_by (tests e) xs = one_low (λ (y : tree.Process). worth (tests e y)) xs k u b in
      let own : worth (tests e u) ≡ 1 = ap (λ (b : Bool). worth b) second in
      one_hit e xs j k t u (omega (arith, more, some, own, one)) (omega (arith, low)) a b first second

-- Start events one after another, and what is left of them.
use Rattle.std.proofs.Common.{◌≡◌, ◌≤◌, ◌+◌, ◌++◌, ℕ, List, length, arith, refl, ap, sym, subst, ◌∙◌, true, false, Bool, append_assoc, append-nil, length-append}
use Rattle.base.specs.declared.event.Event.{Event}
use Rattle.machine_semantics.specs.State.{State}
use Rattle.machine_semantics.specs.Starts.{Started, followed, unchanged}
use Rattle.vm_stretch.specs.Steps.{AreLeft, HasStarted, so_far}

-- one step is done
pub left_step : (go step rest : State → Started) (s s' s'' : State) (es es' es'' : List Event) → AreLeft go s es (λ (x : State). followed (step x) rest) s' es' → HasStarted step s' es' s'' es'' → AreLeft go s es rest s'' es''
left_step go step rest s s' s'' es es' es'' left done =
    subst (λ (x : State). followed (so_far x es'') rest ≡ followed (so_far s es) go) (sym done.state)
    (subst (λ (xs : List Event). followed (so_far (step s').state xs) rest ≡ followed (so_far s es) go) (sym done.events)
    (same ∙ left)) where
      same : followed (so_far (step s').state (es' ++ (step s').events)) rest ≡ followed (so_far s' es') (λ (x : State). followed (step x) rest)
      same =
          ap (λ (xs : List Event). (let f : Started = record { state = (rest (step s').state).state; events = xs; overrun = (rest (step s').state).overrun } in f)) (append_assoc es' (step s').events (rest (step s').state).events)
          ∙ ap (λ (b : Bool). (let f : Started = record { state = (rest (step s').state).state; events = es' ++ ((step s').events ++ (rest (step s').state).events); overrun = elim b [ true ↦ true | false ↦ (rest (step s').state).overrun ] } in f)) (sym done.calm)

-- the same is left, said in another way
pub left_same : (go rest rest' : State → Started) (s s' : State) (es es' : List Event) → AreLeft go s es rest s' es' → rest s' ≡ rest' s' → AreLeft go s es rest' s' es'
left_same go rest rest' s s' es es' left same =
    ap (λ (x : Started). (let f : Started = record { state = x.state; events = es' ++ x.events; overrun = x.overrun } in f)) (sym same) ∙ left

pub left_begin : (go : State → Started) (s : State) (es : List Event) → AreLeft go s es go s es
left_begin go s es = refl

-- nothing is left
pub left_end : (go : State → Started) (s s' : State) (es es' : List Event) → AreLeft go s es unchanged s' es' → (go s).overrun ≡ false → HasStarted go s es s' es'
left_end go s s' es es' left calm = record {
  state = ap (λ (x : Started). x.state) left;
  events = sym (append-nil es') ∙ ap (λ (x : Started). x.events) left;
  calm = calm;
}

-- there is no overrun in what is left
pub left_calm : (go step rest : State → Started) (s s' : State) (es es' : List Event) → AreLeft go s es (λ (x : State). followed (step x) rest) s' es' → (go s).overrun ≡ false → (step s').overrun ≡ false
left_calm go step rest s s' es es' left calm = by (step s').overrun refl where
  by : (o : Bool) → (step s').overrun ≡ o → o ≡ false
  by false is = refl
  by true is =
      let all : (followed (step s') rest).overrun ≡ false = ap (λ (x : Started). x.overrun) left ∙ calm in
      let over : (followed (step s') rest).overrun ≡ true = ap (λ (b : Bool). (let f : Bool = elim b [ true ↦ true | false ↦ (rest (step s').state).overrun ] in f)) is in
      sym over ∙ all

-- there is room for what is left
pub left_room : (go step rest : State → Started) (s s' : State) (es es' : List Event) (most : ℕ) → AreLeft go s es (λ (x : State). followed (step x) rest) s' es' → length es + length (go s).events ≤ most → length es' + length (step s').events ≤ most
left_room go step rest s s' es es' most left few =
    let all : es' ++ ((step s').events ++ (rest (step s').state).events) ≡ es ++ (go s).events = ap (λ (x : Started). x.events) left in
    omega (arith, few, ap length all, length-append es' ((step s').events ++ (rest (step s').state).events), length-append (step s').events (rest (step s').state).events, length-append es (go s).events)

-- one group after another
pub started_then : (go next : State → Started) (s s' s'' : State) (es es' es'' : List Event) → HasStarted go s es s' es' → HasStarted next s' es' s'' es'' → HasStarted (λ (x : State). followed (go x) next) s es s'' es''
started_then go next s s' s'' es es' es'' first second =
    let at : s' ≡ (go s).state = first.state in
    let second' : HasStarted next (go s).state es' s'' es'' = subst (λ (x : State). HasStarted next x es' s'' es'') at second in
    record {
      state = second'.state;
      events = second'.events ∙ ap (λ (xs : List Event). xs ++ (next (go s).state).events) first.events ∙ append_assoc es (go s).events (next (go s).state).events;
      calm = ap (λ (b : Bool). (let f : Bool = elim b [ true ↦ true | false ↦ (next (go s).state).overrun ] in f)) first.calm ∙ second'.calm;
    }

-- neither group has an overrun if both together have none
pub calm_first : (a : Started) (next : State → Started) → (followed a next).overrun ≡ false → a.overrun ≡ false
calm_first a next calm = by a.overrun refl where
  by : (o : Bool) → a.overrun ≡ o → o ≡ false
  by false is = refl
  by true is = let over : (followed a next).overrun ≡ true = ap (λ (b : Bool). (let f : Bool = elim b [ true ↦ true | false ↦ (next a.state).overrun ] in f)) is in sym over ∙ calm

pub calm_second : (a : Started) (next : State → Started) → (followed a next).overrun ≡ false → (next a.state).overrun ≡ false
calm_second a next calm = sym (ap (λ (b : Bool). (let f : Bool = elim b [ true ↦ true | false ↦ (next a.state).overrun ] in f)) (calm_first a next calm)) ∙ calm

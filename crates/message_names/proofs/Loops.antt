-- The variable of a loop, and the last of some names.
use Rattle.std.proofs.Common.{◌≡◌, ◌++◌, ℕ, zero, suc, Bool, List, [], ◌∷◌, length, get_or, set, refl, sym, ap, ◌∙◌, arith, append_assoc}
use Rattle.std.proofs.Math.Seq.{set-append_seam}
use Rattle.syntax_tree.specs.Plain.{Name}
use Rattle.syntax_tree.specs.Placed.{constant_of, placed_constant}
use Rattle.syntax_tree.specs.declared.expr.Constant as code_constant
use Rattle.syntax_tree.specs.declared.expr.Value as code_value
use Rattle.syntax_tree.specs.declared.expr.Value.TheVariants as value_is
use Rattle.syntax_tree.specs.declared.place.Place.{Place}
use Rattle.message_names.specs.declared.mentions.Mention as code_mention
use Rattle.message_names.specs.declared.role.What.TheVariants as what_is
use Rattle.message_names.specs.Mentions.{Mention, declares, last_place, loop_mentions, value_place}
use Rattle.message_names.specs.Seen.{mentions_of}

-- the last name is that of the last item
last-item : (p : Place) (ms : List code_mention.Mention) (none : code_mention.Mention) (k : ℕ) → length ms ≡ suc k
    → (get_or ms k none).place ≡ last_place p (mentions_of ms)
last-item p [] none k size = absurd (omega (arith, size))
last-item p (m ∷ []) none zero size = refl
last-item p (m ∷ []) none (suc k) size = absurd (omega (arith, size))
last-item p (m ∷ (n ∷ ms)) none zero size = absurd (omega (arith, size))
last-item p (m ∷ (n ∷ ms)) none (suc k) size = last-item m.place (n ∷ ms) none k (omega (arith, size))

pub last-at : (p : Place) (ms : List code_mention.Mention) (m : code_mention.Mention) (k : ℕ) → length ms ≡ suc k → m ≡ get_or ms k m
    → m.place ≡ last_place p (mentions_of ms)
last-at p ms m k size is = ap (λ (x : code_mention.Mention). x.place) is ∙ last-item p ms m k size

last-behind : (p : Place) (ms : List Mention) (m : Mention) (more : List Mention) → last_place p (ms ++ m ∷ more) ≡ last_place m.place more
last-behind p [] m more = refl
last-behind p (n ∷ ms) m more = last-behind n.place ms m more

-- a variable, its bounds and the loop's statements, as they are put one behind another
joined : (old bounds body : List Mention) (m : Mention) → ((old ++ m ∷ []) ++ bounds) ++ body ≡ old ++ m ∷ (bounds ++ body)
joined old bounds body m =
    append_assoc (old ++ m ∷ []) bounds body ∙ append_assoc old (m ∷ []) (bounds ++ body)

loop-last : (p : Place) (old bounds body : List Mention) (m : Mention) → last_place p (((old ++ m ∷ []) ++ bounds) ++ body) ≡ last_place m.place (bounds ++ body)
loop-last p old bounds body m = ap (last_place p) (joined old bounds body m) ∙ last-behind p old m (bounds ++ body)

loop-set : (old bounds body : List Mention) (m n : Mention) → set (((old ++ m ∷ []) ++ bounds) ++ body) (length old) n ≡ old ++ n ∷ (bounds ++ body)
loop-set old bounds body m n = ap (λ (l : List Mention). set l (length old) n) (joined old bounds body m) ∙ set-append_seam old m (bounds ++ body) n

at_value : (p : Place) (is_minus : Bool) (v : code_value.Value) (q : Place) → value_place (constant_of p is_minus v q) ≡ q
at_value p is_minus (value_is.Literal n) q = refl
at_value p is_minus (value_is.Name name) q = refl

module _ (old : List Mention) (name : Name) (place : Place) (high : code_constant.Constant) (bounds body : List Mention) where
  -- a loop's names are put, and then how far its variable reaches
  pub loop-is : (pushed bounded whole new : List Mention) (start final : Mention) (index : ℕ) (stop : Place)
      → index ≡ length old → pushed ≡ old ++ start ∷ [] → start ≡ declares what_is.LoopVariable (record { begin = high.value_place; end = place }) name place
      → bounded ≡ pushed ++ bounds → whole ≡ bounded ++ body → stop ≡ last_place place whole
      → final ≡ declares what_is.LoopVariable (record { begin = high.value_place; end = stop }) name place → new ≡ set whole index final
      → new ≡ old ++ loop_mentions name place (placed_constant high) (bounds ++ body)
  loop-is pushed bounded whole new start final index stop index_is pushed_is start_is bounded_is whole_is stop_is final_is new_is =
      let all : whole ≡ ((old ++ start ∷ []) ++ bounds) ++ body =
      whole_is ∙ ap (λ (l : List Mention). l ++ body) (bounded_is ∙ ap (λ (l : List Mention). l ++ bounds) pushed_is) in
      let last : stop ≡ last_place place (bounds ++ body) =
      stop_is ∙ ap (last_place place) all ∙ loop-last place old bounds body start ∙ ap (λ (m : Mention). last_place m.place (bounds ++ body)) start_is in
      let from : value_place (placed_constant high) ≡ high.value_place = at_value high.place high.minus high.value high.value_place in
      let reaches : final ≡ declares what_is.LoopVariable (record { begin = value_place (placed_constant high); end = last_place place (bounds ++ body) }) name place =
      final_is
      ∙ ap (λ (q : Place). declares what_is.LoopVariable (record { begin = high.value_place; end = q }) name place) last
      ∙ ap (λ (q : Place). declares what_is.LoopVariable (record { begin = q; end = last_place place (bounds ++ body) }) name place) (sym from) in
      new_is
      ∙ ap (λ (l : List Mention). set l index final) all
      ∙ ap (λ (k : ℕ). set (((old ++ start ∷ []) ++ bounds) ++ body) k final) index_is
      ∙ loop-set old bounds body start final
      ∙ ap (λ (m : Mention). old ++ m ∷ (bounds ++ body)) reaches

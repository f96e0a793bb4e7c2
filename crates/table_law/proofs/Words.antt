-- A line says one list of words, and a process line is of one list of words.
use Rattle.std.proofs.Common.{◌≡◌, ◌≢◌, ◌<◌, ◌++◌, ℕ, zero, suc, List, [], ◌∷◌, Option, Some, None, length, flat_map, get_or, codes, refl, sym, ap, ◌∙◌, arith, All, drop}
use Rattle.std.proofs.lemmas.List.{append_assoc}
use Rattle.std.proofs.lemmas.List.Elements.{All-head, All-tail}
use Rattle.text_fields.specs.Fields.{Lacks, IsWord, spaced}
use Rattle.text_fields.proofs.Cuts.{cut_once, cut_lacks, lacks_both}
use Rattle.table_format.specs.Spelling.{Word, line_of, SaidStay, SaidLine, with_key, stay_words, process_words}

-- ---- lines

spaced_lacks : (ws : List Word) → All IsWord ws → Lacks 10 (spaced ws)
spaced_lacks [] all = tt
spaced_lacks (w ∷ []) all = (All-head IsWord w [] all).no_line_feed
spaced_lacks (w ∷ v ∷ ws) all =
    lacks_both 10 w (32 ∷ spaced (v ∷ ws)) (All-head IsWord w (v ∷ ws) all).no_line_feed ((λ e. absurd (omega (arith, e))), spaced_lacks (v ∷ ws) (All-tail IsWord w (v ∷ ws) all))

no_empty : (w : Word) (rest : List ℕ) → IsWord w → [] ≡ w ++ rest → ⊥
no_empty [] rest is e = let some = is.some in omega (arith, some)
no_empty (c ∷ w) rest is e = absurd cc

no_word : (w : Word) → IsWord w → [] ≡ w → ⊥
no_word [] is e = let some = is.some in omega (arith, some)
no_word (c ∷ w) is e = absurd cc

spaced_once : (ws vs : List Word) → All IsWord ws → All IsWord vs → spaced ws ≡ spaced vs → ws ≡ vs
spaced_once [] [] are also e = refl
spaced_once [] (v ∷ []) are also e = absurd (no_word v (All-head IsWord v [] also) e)
spaced_once [] (v ∷ u ∷ us) are also e = absurd (no_empty v (32 ∷ spaced (u ∷ us)) (All-head IsWord v (u ∷ us) also) e)
spaced_once (w ∷ []) [] are also e = absurd (no_word w (All-head IsWord w [] are) (sym e))
spaced_once (w ∷ []) (v ∷ []) are also e = ap (λ x. x ∷ []) e
spaced_once (w ∷ []) (v ∷ u ∷ us) are also e = absurd (cut_lacks 32 w v (spaced (u ∷ us)) (All-head IsWord w [] are).no_space e)
spaced_once (w ∷ x ∷ ws) [] are also e = absurd (no_empty w (32 ∷ spaced (x ∷ ws)) (All-head IsWord w (x ∷ ws) are) (sym e))
spaced_once (w ∷ x ∷ ws) (v ∷ []) are also e = absurd (cut_lacks 32 v w (spaced (x ∷ ws)) (All-head IsWord v [] also).no_space (sym e))
spaced_once (w ∷ x ∷ ws) (v ∷ u ∷ us) are also e =
    let r = cut_once 32 w (spaced (x ∷ ws)) v (spaced (u ∷ us)) (All-head IsWord w (x ∷ ws) are).no_space (All-head IsWord v (u ∷ us) also).no_space e in
    let rest = spaced_once (x ∷ ws) (u ∷ us) (All-tail IsWord w (x ∷ ws) are) (All-tail IsWord v (u ∷ us) also) r.1 in
    let first = r.0 in
    cc

line_is : (ws : List Word) (rest : List ℕ) → line_of ws ++ rest ≡ spaced ws ++ 10 ∷ rest
line_is ws rest = append_assoc (spaced ws) (10 ∷ []) rest

pub line_once : (ws vs : List Word) (r q : List ℕ) → All IsWord ws → All IsWord vs → line_of ws ++ r ≡ line_of vs ++ q → (ws ≡ vs) × (r ≡ q)
line_once ws vs r q are also e =
    let cut = cut_once 10 (spaced ws) r (spaced vs) q (spaced_lacks ws are) (spaced_lacks vs also) (sym (line_is ws r) ∙ (e ∙ line_is vs q)) in
    (spaced_once ws vs are also cut.0, cut.1)

-- ---- the words of a process line

abbrev first_word : List Word → Word
first_word ws = get_or ws 0 []

key_once : (key : Word) (o p : Option Word) (xs ys : List Word) → first_word xs ≢ key → first_word ys ≢ key → with_key key o ++ xs ≡ with_key key p ++ ys → (o ≡ p) × (xs ≡ ys)
key_once key None None xs ys other never e = (refl, e)
key_once key None (Some w) xs ys other never e = absurd (other (ap first_word e))
key_once key (Some w) None xs ys other never e = absurd (never (ap first_word (sym e)))
key_once key (Some w) (Some v) xs ys other never e =
    let same : w ≡ v = cc in
    let rest : xs ≡ ys = cc in
    (ap Some same, rest)

stay_is : (a b c d : Word) → a ≡ c → b ≡ d → (let s : SaidStay = record { monitor = a; ticks = b } in s) ≡ record { monitor = c; ticks = d }
stay_is a b c d e f = cc

stays_once : (ss qs : List SaidStay) → flat_map stay_words ss ≡ flat_map stay_words qs → ss ≡ qs
stays_once [] [] e = refl
stays_once [] (q ∷ qs) e = absurd cc
stays_once (s ∷ ss) [] e = absurd cc
stays_once (s ∷ ss) (q ∷ qs) e =
    let monitor : s.monitor ≡ q.monitor = cc in
    let ticks : s.ticks ≡ q.ticks = cc in
    let rest : flat_map stay_words ss ≡ flat_map stay_words qs = cc in
    let more = stays_once ss qs rest in
    let same : s ≡ q = stay_is s.monitor s.ticks q.monitor q.ticks monitor ticks in
    cc

first_byte : (w v : Word) → w ≡ v → get_or w 0 0 ≡ get_or v 0 0
first_byte w v e = ap (λ x. get_or x 0 0) e

frame_no_event : codes "frame" ≢ codes "event"
frame_no_event e = let at = first_byte (codes "frame") (codes "event") e in absurd (omega (arith, at))

cost_no_first : codes "cost" ≢ codes "first"
cost_no_first e = let at = first_byte (codes "cost") (codes "first") e in absurd (omega (arith, at))

cost_no_deadline : codes "cost" ≢ codes "deadline"
cost_no_deadline e = let at = first_byte (codes "cost") (codes "deadline") e in absurd (omega (arith, at))

first_no_deadline : codes "first" ≢ codes "deadline"
first_no_deadline e = let at = first_byte (codes "first") (codes "deadline") e in absurd (omega (arith, at))

behind_deadline : (o : Option Word) (cost : Word) (rest : List Word) → first_word (with_key (codes "first") o ++ codes "cost" ∷ cost ∷ rest) ≢ codes "deadline"
behind_deadline None cost rest = cost_no_deadline
behind_deadline (Some w) cost rest = first_no_deadline

line_is_of : (s q : SaidLine) → s.name ≡ q.name → s.event ≡ q.event → s.frame ≡ q.frame → s.deadline ≡ q.deadline → s.first ≡ q.first → s.cost ≡ q.cost → s.stays ≡ q.stays
    → (let r : SaidLine = record { name = s.name; event = s.event; frame = s.frame; deadline = s.deadline; first = s.first; cost = s.cost; stays = s.stays } in r)
    ≡ record { name = q.name; event = q.event; frame = q.frame; deadline = q.deadline; first = q.first; cost = q.cost; stays = q.stays }
line_is_of s q a b c d e f g = cc

pub words_once : (s q : SaidLine) → process_words s ≡ process_words q → s ≡ q
words_once s q e =
    let name : s.name ≡ q.name = cc in
    let one = key_once (codes "event") s.event q.event _ _ frame_no_event frame_no_event (ap (λ ws. drop 2 ws) e) in
    let event = one.0 in
    let frame : s.frame ≡ q.frame = ap (λ ws. get_or ws 1 []) one.1 in
    let two = key_once (codes "deadline") s.deadline q.deadline _ _ (behind_deadline s.first s.cost (flat_map stay_words s.stays)) (behind_deadline q.first q.cost (flat_map stay_words q.stays)) (ap (λ ws. drop 2 ws) one.1) in
    let deadline = two.0 in
    let three = key_once (codes "first") s.first q.first _ _ cost_no_first cost_no_first two.1 in
    let first = three.0 in
    let cost : s.cost ≡ q.cost = ap (λ ws. get_or ws 1 []) three.1 in
    let stays : s.stays ≡ q.stays = stays_once s.stays q.stays (ap (λ ws. drop 2 ws) three.1) in
    line_is_of s q name event frame deadline first cost stays

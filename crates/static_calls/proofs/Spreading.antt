-- Marking what the marked nodes reach.
use Rattle.std.proofs.Common.{◌≡◌, ℕ, ◌+◌, ◌<◌, ◌≤◌, ◌⊎◌, inl, inr, Bool, true, false, List, [], length, get_or, replicate, ap, sym, ◌∙◌, subst, arith}
use Rattle.std.specs.Prelude.{Contains}
use Rattle.std.proofs.lemmas.Bool.{cases_eq}
use Rattle.std.proofs.lemmas.List.{get_or-take, get_or_default, length-take}
use Rattle.std.proofs.lemmas.List.Elements.{All-contains, All-get_or}
use Rattle.std.proofs.lemmas.List.Sums.{count_by-le-length}
use Rattle.static_calls.specs.Graph.{Graph, HasEdge, Reaches, by_edge, by_edges, marked, IsReached, ReachesOne}
use Rattle.static_calls.specs.Marks.{AreListed, AreMarked, ComesFrom, AreSpread}
use Rattle.static_calls.proofs.Marking.{none-marked}

-- a further edge at the end
pub reaches-on : (g : Graph) (a b c : ℕ) → Reaches g a b → HasEdge g b c → Reaches g a c
reaches-on g a b c (by_edge _ _ e) f = by_edges a b c e (by_edge b c f)
reaches-on g a b c (by_edges _ m _ e r) f = by_edges a m c e (reaches-on g m b c r f)

-- what is known once the edges of the first `turn` nodes of the list were followed
pub record AreFollowed (g : Graph) (marks : List Bool) (turn : ℕ) (found : List ℕ) (new_marks : List Bool) : Type 0 where
  pub listed : AreListed new_marks found
  pub come : turn ≤ length found
  pub kept : (node : ℕ) → marked marks node ≡ true → marked new_marks node ≡ true
  pub closed : (k : ℕ) → k < turn → (b : ℕ) → HasEdge g (get_or found k 0) b → marked new_marks b ≡ true
  pub only : (node : ℕ) → marked new_marks node ≡ true → ComesFrom g marks node

pub follow-more : (g : Graph) (marks : List Bool) (turn : ℕ) (found : List ℕ) (marks1 : List Bool) (node : ℕ) (found2 : List ℕ) (marks2 : List Bool) → AreFollowed g marks turn found marks1 → turn < length found → node ≡ get_or found turn 0 → AreMarked marks1 found (get_or g node []) marks2 found2 → AreFollowed g marks (turn + 1) found2 marks2
follow-more g marks turn found marks1 node found2 marks2 before below is m = record {
  listed = m.listed before.listed;
  come = omega (arith, longer);
  kept = λ n h. m.kept n (before.kept n h);
  closed = closed;
  only = only;
}
  where
    longer : length found ≤ length found2
    longer = omega (arith, ap length m.front, length-take (length found) found2)

    same : (k : ℕ) → k < length found → get_or found2 k 0 ≡ get_or found k 0
    same k inside = sym (get_or-take (length found) found2 k 0 inside) ∙ ap (λ l. get_or l k 0) m.front

    closed : (k : ℕ) → k < turn + 1 → (b : ℕ) → HasEdge g (get_or found2 k 0) b → marked marks2 b ≡ true
    closed k inside b e = by (cases_eq k turn)
      where
        f : HasEdge g (get_or found k 0) b
        f = subst (λ n. HasEdge g n b) (same k (omega arith)) e

        by : (k ≡ turn) ⊎ (k ≡ turn → ⊥) → marked marks2 b ≡ true
        by (inl now) = All-contains (λ n. marked marks2 n ≡ true) (get_or g node []) b m.all (subst (λ n. HasEdge g n b) (ap (λ i. get_or found i 0) now ∙ sym is) f)
        by (inr earlier) = m.kept b (before.closed k (omega arith) b f)

    here : marked marks1 node ≡ true
    here = subst (λ n. marked marks1 n ≡ true) (sym is) (All-get_or (λ n. marked marks1 n ≡ true) found turn 0 below before.listed.marks_them)

    only : (n : ℕ) → marked marks2 n ≡ true → ComesFrom g marks n
    only n h = by (m.only n h)
      where
        by : (marked marks1 n ≡ true) ⊎ Contains (get_or g node []) n → ComesFrom g marks n
        by (inl was) = before.only n was
        by (inr e) = let from = before.only node here in record { start = from.start; was = from.was; reached = inr (on from.start from.reached) }
          where
            on : (start : ℕ) → (start ≡ node) ⊎ Reaches g start node → Reaches g start n
            on start (inl same) = by_edge start n (subst (λ i. HasEdge g i n) (sym same) e)
            on start (inr r) = reaches-on g start node n r e

pub follow-all : (g : Graph) (marks : List Bool) (turn : ℕ) (found : List ℕ) (new_marks : List Bool) → AreFollowed g marks turn found new_marks → length found ≤ turn → AreSpread g marks new_marks
follow-all g marks turn found new_marks f past = record {
  kept = f.kept;
  closed = λ a b h e. let l = f.listed.listed a h in f.closed l.0 (let i = l.1 in omega arith) b (subst (λ n. HasEdge g n b) (sym l.2 ∙ get_or_default found l.0 a 0 l.1) e);
  only = f.only;
}

-- no more nodes are listed than there are
pub none-left : (marks : List Bool) (found : List ℕ) → AreListed marks found → length found ≤ length marks
none-left marks found l = omega (arith, l.count, count_by-le-length (λ (m : Bool). m) marks)

-- what is reached of nodes that are marked
reached-on : (g : Graph) (marks : List Bool) → ((a b : ℕ) → marked marks a ≡ true → HasEdge g a b → marked marks b ≡ true) → (a b : ℕ) → Reaches g a b → marked marks a ≡ true → marked marks b ≡ true
reached-on g marks closed a b (by_edge _ _ e) h = closed a b h e
reached-on g marks closed a b (by_edges _ m _ e r) h = reached-on g marks closed m b r (closed a m h e)

-- marking some nodes of a graph, and then what they reach, marks what is reached of them
pub reached-are : (g : Graph) (size : ℕ) (starts : List ℕ) (marks new_marks : List Bool) (found : List ℕ) → AreMarked (replicate size false) [] starts marks found → AreSpread g marks new_marks → (node : ℕ) → (marked new_marks node ≡ true → IsReached g starts node) × (IsReached g starts node → marked new_marks node ≡ true)
reached-are g size starts marks new_marks found m s node = (to, from)
  where
    to : marked new_marks node ≡ true → IsReached g starts node
    to h = let come = s.only node h in record { start = come.start; listed = by come.start (m.only come.start come.was); reached = come.reached }
      where
        by : (start : ℕ) → (marked (replicate size false) start ≡ true) ⊎ Contains starts start → Contains starts start
        by start (inl was) = absurd (none-marked size start was)
        by start (inr listed) = listed

    from : IsReached g starts node → marked new_marks node ≡ true
    from r = by r.reached
      where
        start : marked new_marks r.start ≡ true
        start = s.kept r.start (All-contains (λ n. marked marks n ≡ true) starts r.start m.all r.listed)

        by : (r.start ≡ node) ⊎ Reaches g r.start node → marked new_marks node ≡ true
        by (inl same) = subst (λ n. marked new_marks n ≡ true) same start
        by (inr reaches) = reached-on g new_marks s.closed r.start node reaches start

-- edges turned round turn what is reached round
reaches-back : (g h : Graph) → ((a b : ℕ) → HasEdge h b a → HasEdge g a b) → (a b : ℕ) → Reaches h b a → Reaches g a b
reaches-back g h turned a b (by_edge _ _ e) = by_edge a b (turned a b e)
reaches-back g h turned a b (by_edges _ m _ e r) = reaches-on g a m b (reaches-back g h turned a m r) (turned m b e)

pub turned-round : (g h : Graph) (ends : List ℕ) (node : ℕ) → ((a b : ℕ) → (HasEdge h b a → HasEdge g a b) × (HasEdge g a b → HasEdge h b a)) → (IsReached h ends node → ReachesOne g ends node) × (ReachesOne g ends node → IsReached h ends node)
turned-round g h ends node turned = (to, from)
  where
    to : IsReached h ends node → ReachesOne g ends node
    to r = record { end = r.start; listed = r.listed; reaches = by r.reached }
      where
        by : (r.start ≡ node) ⊎ Reaches h r.start node → (node ≡ r.start) ⊎ Reaches g node r.start
        by (inl same) = inl (sym same)
        by (inr s) = inr (reaches-back g h (λ a b. (turned a b).0) node r.start s)

    from : ReachesOne g ends node → IsReached h ends node
    from r = record { start = r.end; listed = r.listed; reached = by r.reaches }
      where
        by : (node ≡ r.end) ⊎ Reaches g node r.end → (r.end ≡ node) ⊎ Reaches h r.end node
        by (inl same) = inl (sym same)
        by (inr s) = inr (reaches-back h g (λ a b. (turned b a).1) r.end node s)

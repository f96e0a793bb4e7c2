-- Start events that come one by one.
use Rattle.std.specs.Prelude.{◌≡◌, ◌++◌, ℕ, suc, Bool, true, false, List, [], ◌∷◌}
use Rattle.std.proofs.Common.{sym, ◌∙◌, ap, refl, subst, append_assoc}
use Rattle.std.proofs.lemmas.List.{append-nil}
use Rattle.base.specs.declared.event.Event.{Event}
use Rattle.syntax_tree.specs.Plain.{Program}
use Rattle.source_semantics.specs.Config.{Config}
use Rattle.source_semantics.specs.Starts.{NoneMissing, Script}
use Rattle.replay_accept.specs.Judged.{Comes}
use Rattle.replay_reason_spec.specs.Missing.{AreMissing, IsNextStart, enough, none, held, taken}
use Rattle.replay_reason.specs.Starting.{IsListed, Leads, Takes}

module _ (g : Program) (s : Script) (until : ℕ) where
  -- none is due
  pub takes_none : (c : Config) (es : List Event) → NoneMissing g s c until → Takes g s until c false c es es
  takes_none c es empty = record { added = []; list = sym (append-nil es); leads = λ n. none n c empty }

  leads_on : (c d : Config) (e : Event) (goes : Bool) → IsNextStart g s c until e → Comes g c e goes d → Leads g s until c goes d (e ∷ [])
  leads_on c d e true next comes = λ n es rest. taken n c e es next comes.0 (subst (λ x. AreMissing g s until n x es) comes.1 rest)
  leads_on c d e false next comes = λ n. held n c e next comes.0

  -- one is listed, and comes or may not
  pub takes_one : (c d : Config) (e : Event) (goes : Bool) (before after : List Event) → after ≡ before ++ e ∷ [] → IsNextStart g s c until e → Comes g c e goes d → Takes g s until c goes d before after
  takes_one c d e goes before after list next comes = record { added = e ∷ []; list = list; leads = leads_on c d e goes next comes }

  -- at first none is listed
  pub listed_none : (n : ℕ) (c : Config) → IsListed g s until n c c n []
  listed_none n c = λ es missing. missing

  pub listed_more : (n left : ℕ) (first c d : Config) (before after : List Event) → Takes g s until c true d before after → IsListed g s until n first c (suc left) before → IsListed g s until n first d left after
  listed_more n left first c d before after takes so_far = λ es rest.
      subst (λ l. AreMissing g s until n first l) (sym (append_assoc before takes.added es) ∙ ap (λ l. l ++ es) (sym takes.list))
      (so_far (takes.added ++ es) (takes.leads left es rest))

  pub listed_last : (n left : ℕ) (first c d : Config) (before after : List Event) → Takes g s until c false d before after → IsListed g s until n first c (suc left) before → AreMissing g s until n first after
  listed_last n left first c d before after takes so_far =
      subst (λ l. AreMissing g s until n first l) (sym takes.list) (so_far takes.added (takes.leads left))

  pub listed_all : (n : ℕ) (first c : Config) (found : List Event) → IsListed g s until n first c 0 found → AreMissing g s until n first found
  listed_all n first c found so_far = subst (λ l. AreMissing g s until n first l) (append-nil found) (so_far [] (enough c))

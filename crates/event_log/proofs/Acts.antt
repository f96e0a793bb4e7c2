-- Acts by their verbs.
use Rattle.std.proofs.Common.{◌≡◌, ◌≢◌, ℕ, ◌+◌, ◌*◌, List, get_or, cond, Option, Some, None, refl, sym, ap, subst, ◌∙◌, arith}
use Rattle.std.specs.Prelude.{◌==◌, IfNone}
use Rattle.base.specs.declared.event.Act.{Act}
use Rattle.base.specs.declared.event.Act.TheVariants as act
use Rattle.text_fields.specs.Fields.{Lacks, IsCutAt}
use Rattle.text_fields.proofs.Cuts.{cut_lacks}
use Rattle.image.specs.declared.names.ImageNames.{ImageNames}
use Rattle.event_log.specs.declared.verb.Verb.{Verb}
use Rattle.event_log.specs.declared.verb.Verb.TheVariants as verb
use Rattle.event_log.specs.Parts.{verb_text, verb_of, args_text, spoken, act_words, ActIsTold, ByVerb, IsUnsaid}
use Rattle.event_log.proofs.Names.{same_cut}

-- the first and the third byte of a verb tell it
abbrev key : List ℕ → ℕ
key word = 1000 * get_or word 0 0 + get_or word 2 0

abbrev verb_by : ℕ → Verb
verb_by k =
    cond (k == 114108) verb.Release (
    cond (k == 116109) verb.TimeOut (
    cond (k == 103116) verb.Get (
    cond (k == 112116) verb.Put (
    cond (k == 101116) verb.Enter (
    cond (k == 108097) verb.Leave (
    cond (k == 119105) verb.Wait (
    cond (k == 115103) verb.Signal (
    cond (k == 98111) verb.Broadcast (
    cond (k == 101112) verb.Empty (
    cond (k == 114105) verb.Raise (
    verb.End)))))))))))

verb_back : (v : Verb) → verb_by (key (verb_text v)) ≡ v
verb_back verb.Release = refl
verb_back verb.TimeOut = refl
verb_back verb.Get = refl
verb_back verb.Put = refl
verb_back verb.Enter = refl
verb_back verb.Leave = refl
verb_back verb.Wait = refl
verb_back verb.Signal = refl
verb_back verb.Broadcast = refl
verb_back verb.Empty = refl
verb_back verb.Raise = refl
verb_back verb.End = refl

pub verb_once : (v w : Verb) → verb_text v ≡ verb_text w → v ≡ w
verb_once v w e = sym (verb_back v) ∙ ap (λ t. verb_by (key t)) e ∙ verb_back w

-- no verb has a byte of this value
pub verb_lacks : (v : Verb) → Lacks 32 (verb_text v)
verb_lacks verb.Release = ((λ e. omega arith), ((λ e. omega arith), ((λ e. omega arith), ((λ e. omega arith), ((λ e. omega arith), ((λ e. omega arith), ((λ e. omega arith), tt)))))))
verb_lacks verb.TimeOut = ((λ e. omega arith), ((λ e. omega arith), ((λ e. omega arith), ((λ e. omega arith), ((λ e. omega arith), ((λ e. omega arith), ((λ e. omega arith), tt)))))))
verb_lacks verb.Get = ((λ e. omega arith), ((λ e. omega arith), ((λ e. omega arith), tt)))
verb_lacks verb.Put = ((λ e. omega arith), ((λ e. omega arith), ((λ e. omega arith), tt)))
verb_lacks verb.Enter = ((λ e. omega arith), ((λ e. omega arith), ((λ e. omega arith), ((λ e. omega arith), ((λ e. omega arith), tt)))))
verb_lacks verb.Leave = ((λ e. omega arith), ((λ e. omega arith), ((λ e. omega arith), ((λ e. omega arith), ((λ e. omega arith), tt)))))
verb_lacks verb.Wait = ((λ e. omega arith), ((λ e. omega arith), ((λ e. omega arith), ((λ e. omega arith), tt))))
verb_lacks verb.Signal = ((λ e. omega arith), ((λ e. omega arith), ((λ e. omega arith), ((λ e. omega arith), ((λ e. omega arith), ((λ e. omega arith), tt))))))
verb_lacks verb.Broadcast = ((λ e. omega arith), ((λ e. omega arith), ((λ e. omega arith), ((λ e. omega arith), ((λ e. omega arith), ((λ e. omega arith), ((λ e. omega arith), ((λ e. omega arith), ((λ e. omega arith), tt)))))))))
verb_lacks verb.Empty = ((λ e. omega arith), ((λ e. omega arith), ((λ e. omega arith), ((λ e. omega arith), ((λ e. omega arith), tt)))))
verb_lacks verb.Raise = ((λ e. omega arith), ((λ e. omega arith), ((λ e. omega arith), ((λ e. omega arith), ((λ e. omega arith), tt)))))
verb_lacks verb.End = ((λ e. omega arith), ((λ e. omega arith), ((λ e. omega arith), tt)))

pub verb_feed : (v : Verb) → Lacks 10 (verb_text v)
verb_feed verb.Release = ((λ e. omega arith), ((λ e. omega arith), ((λ e. omega arith), ((λ e. omega arith), ((λ e. omega arith), ((λ e. omega arith), ((λ e. omega arith), tt)))))))
verb_feed verb.TimeOut = ((λ e. omega arith), ((λ e. omega arith), ((λ e. omega arith), ((λ e. omega arith), ((λ e. omega arith), ((λ e. omega arith), ((λ e. omega arith), tt)))))))
verb_feed verb.Get = ((λ e. omega arith), ((λ e. omega arith), ((λ e. omega arith), tt)))
verb_feed verb.Put = ((λ e. omega arith), ((λ e. omega arith), ((λ e. omega arith), tt)))
verb_feed verb.Enter = ((λ e. omega arith), ((λ e. omega arith), ((λ e. omega arith), ((λ e. omega arith), ((λ e. omega arith), tt)))))
verb_feed verb.Leave = ((λ e. omega arith), ((λ e. omega arith), ((λ e. omega arith), ((λ e. omega arith), ((λ e. omega arith), tt)))))
verb_feed verb.Wait = ((λ e. omega arith), ((λ e. omega arith), ((λ e. omega arith), ((λ e. omega arith), tt))))
verb_feed verb.Signal = ((λ e. omega arith), ((λ e. omega arith), ((λ e. omega arith), ((λ e. omega arith), ((λ e. omega arith), ((λ e. omega arith), tt))))))
verb_feed verb.Broadcast = ((λ e. omega arith), ((λ e. omega arith), ((λ e. omega arith), ((λ e. omega arith), ((λ e. omega arith), ((λ e. omega arith), ((λ e. omega arith), ((λ e. omega arith), ((λ e. omega arith), tt)))))))))
verb_feed verb.Empty = ((λ e. omega arith), ((λ e. omega arith), ((λ e. omega arith), ((λ e. omega arith), ((λ e. omega arith), tt)))))
verb_feed verb.Raise = ((λ e. omega arith), ((λ e. omega arith), ((λ e. omega arith), ((λ e. omega arith), ((λ e. omega arith), tt)))))
verb_feed verb.End = ((λ e. omega arith), ((λ e. omega arith), ((λ e. omega arith), tt)))

pub by_verb : (P : Act → Type 0) (a : Act) → ByVerb P (verb_of a) → P a
by_verb P act.Release h = h
by_verb P (act.TimeOut c number) h = h c number
by_verb P (act.Get d value) h = h d value
by_verb P (act.Put d value) h = h d value
by_verb P (act.Enter m) h = h m
by_verb P (act.Leave m) h = h m
by_verb P (act.Wait c) h = h c
by_verb P (act.Signal c woken) h = h c woken
by_verb P (act.Broadcast c count) h = h c count
by_verb P (act.Empty c answer) h = h c answer
by_verb P (act.Raise number) h = h number
by_verb P act.End h = h

spoken_bare : (bytes word : List ℕ) (args : Option (List ℕ)) → Lacks 32 bytes → bytes ≡ spoken word args → (bytes ≡ word) × (None ≡ args)
spoken_bare bytes word None l e = (e, refl)
spoken_bare bytes word (Some rest) l e = absurd (cut_lacks 32 bytes word rest l e)

spoken_cut : (bytes before after word : List ℕ) (args : Option (List ℕ)) → IsCutAt 32 bytes before after → Lacks 32 word → bytes ≡ spoken word args → (before ≡ word) × (Some after ≡ args)
spoken_cut bytes before after word None cut l e = absurd (cut_lacks 32 word before after l (sym e ∙ cut.whole))
spoken_cut bytes before after word (Some rest) cut l e = let r = same_cut 32 bytes before after word rest cut l e in (r.0, ap (λ t. Some t) r.1)

unsaid : (names : ImageNames) (v : Verb) (rest : Option (List ℕ)) → IsUnsaid names v rest → (a : Act) → verb_of a ≡ v → ActIsTold names a → rest ≢ args_text names a
unsaid names v rest none a same told =
    by_verb (λ b. ActIsTold names b → rest ≢ args_text names b) a (subst (ByVerb (λ b. ActIsTold names b → rest ≢ args_text names b)) (sym same) none) told

pub unsaid_bare : (names : ImageNames) (bytes : List ℕ) (v : Verb) → Lacks 32 bytes → bytes ≡ verb_text v → IsUnsaid names v None → (a : Act) → ActIsTold names a → bytes ≢ act_words names a
unsaid_bare names bytes v l is none a told e =
    let r = spoken_bare bytes (verb_text (verb_of a)) (args_text names a) l e in
    unsaid names v None none a (verb_once (verb_of a) v (sym r.0 ∙ is)) told r.1

pub unsaid_verb : (names : ImageNames) (bytes before after : List ℕ) → IsCutAt 32 bytes before after → ((v : Verb) → before ≢ verb_text v) → (a : Act) → ActIsTold names a → bytes ≢ act_words names a
unsaid_verb names bytes before after cut none a told e =
    let r = spoken_cut bytes before after (verb_text (verb_of a)) (args_text names a) cut (verb_lacks (verb_of a)) e in none (verb_of a) r.0

pub if_none : {X : Type 0} (r : Option X) (P Q : Type 0) → (P → Q) → IfNone r P → IfNone r Q
if_none None P Q f h = f h
if_none (Some x) P Q f h = tt

-- What is prepared and performed went as is due.
use Rattle.std.proofs.Common.{◌≡◌, ◌≢◌, ◌≤◌, ◌<◌, ◌⊎◌, ◌∙◌, ℕ, List, [], Option, Some, None, Bool, true, false, Err, inl, inr, refl, sym, subst, ap, arith}
use Rattle.std.specs.Prelude.{Contains, IsSomeAnd, IfSome}
use Rattle.std.specs.Bool.{OnTrue}
use Rattle.outside.specs.Outside.{FilesState, SinkState, Outside, outside, Rose, AllStay, NoneFell}
use Rattle.command_words.specs.Calls.{Call}
use Rattle.command_answers.specs.declared.status.Status.{Status}
use Rattle.command_answers.specs.declared.status.Status.TheVariants as status
use Rattle.command_answers.specs.declared.act.PreparedCall.{PreparedCall}
use Rattle.command_answers.specs.declared.act.Store.{Store}
use Rattle.command_answers.specs.Causes.{HasCause}
use Rattle.command_answers.specs.Files.{Held, listed, sources_of, target_of}
use Rattle.command_answers.specs.Acts.{number_of, outcome_of, bytes_due, IsAtTarget}
use Rattle.command_answers.specs.Went.{IsAnswer, IsStored, Stores, IsWhole, WriteFailed, PutFailed, HasText, IsCut, ReadFailed, Went}
use Rattle.command_answers.specs.Prepared.{Failed, IsPrepared, IsReached, Prepares}
use Rattle.command_answers.specs.declared.prepare_error.PrepareError.{PrepareError}
use Rattle.command_answers.specs.declared.prepare_error.PrepareError.TheVariants as unready
use Rattle.std.specs.Borrow.{Bor}
use Rattle.command_perform.specs.Performed.{StoresIt, OthersKept, StoreFailed, Performed, targets}
use Rattle.command_answers.proofs.Caused.{cause_since, more_targets, reached_is_named}
use Rattle.command_answers.proofs.Held.{rose_since}

stay_since : (b m n : Held) → AllStay b m → AllStay m n → AllStay b n
stay_since b m n one two name = two name ∙ one name

-- ---- what is stored

stores : (call : Call) (s : Option Store) (b m n : Held) → IsAtTarget call s → AllStay b m → StoresIt true s m n → Stores (bytes_due s) (target_of call) b n
stores call None b m n at stay kept = stay_since b m n stay kept
stores call (Some s) b m n at stay kept = subst (λ (t : Option (List ℕ)). IsSomeAnd t (IsStored n s.bytes.items)) (sym at) kept

others : (call : Call) (s : Option Store) (b m n : Held) → IsAtTarget call s → AllStay b m → OthersKept s m n → (name : List ℕ) → target_of call ≢ Some name → n name ≡ b name
others call None b m n at stay kept name other = kept name ∙ stay name
others call (Some s) b m n at stay kept name other = kept name (λ same. other (at ∙ ap (λ (x : List ℕ). Some x) (sym same))) ∙ stay name

write_failed : (call : Call) (s : Option Store) (b m n : FilesState) (o o' : SinkState) → IsAtTarget call s → NoneFell b.write_faults m.write_faults
    → StoreFailed s (outside m o) (outside n o') → WriteFailed call (outside b o) (outside n o')
write_failed call None b m n o o' at less failed = absurd failed
write_failed call (Some s) b m n o o' at less failed =
    subst (λ (t : Option (List ℕ)). IsSomeAnd t (λ name. Rose (b.write_faults name) (n.write_faults name))) (sym at)
    (rose_since (b.write_faults s.name.now) (m.write_faults s.name.now) (n.write_faults s.name.now) (less s.name.now) failed)

some_bytes : (s : Option Store) (b n : FilesState) (o o' : SinkState) → StoreFailed s (outside b o) (outside n o') → (bytes : List ℕ) × (bytes_due s ≡ Some bytes)
some_bytes None b n o o' failed = absurd failed
some_bytes (Some s) b n o o' failed = (s.bytes.items, refl)

has_text : (taken : Option (List ℕ)) (text : List ℕ) → text ≢ [] → HasText taken text
has_text (Some taken) text some = some
has_text None text some = tt

number_low : (s : Status) → number_of s ≤ 9
number_low status.Done = omega arith
number_low status.Usage = omega arith
number_low status.Text = omega arith
number_low status.Late = omega arith
number_low status.Image = omega arith
number_low status.Script = omega arith
number_low (status.Unread name) = omega arith
number_low (status.Unwritten name) = omega arith
number_low status.Unput = omega arith
number_low status.Memory = omega arith
number_low status.Log = omega arith

-- ---- a call that was performed

module _ (call : Call) (b m n : FilesState) (o o' : SinkState) (act : PreparedCall) (status : ℕ) (stay : AllStay b.held m.held) (less : NoneFell b.write_faults m.write_faults) where
  whole : IsPrepared true call b act → Performed true act (outside m o) (outside n o') status → IsAnswer status → IsWhole call (outside b o) (outside n o') status
  whole p d answer =
      record {
        outcome = outcome_of act;
        due = p.due;
        is = elim d.range [ inl same ↦ same | inr more ↦ absurd (elim more [ inl seven ↦ answer.1 seven | inr eight ↦ answer.2 eight ]) ];
        put = d.whole answer.1 answer.2;
        stored = stores call act.store b.held m.held n.held p.at stay (d.stored answer.1 answer.2);
      }

  cut : IsPrepared true call b act → Performed true act (outside m o) (outside n o') status → status ≡ 7 → IsCut call (outside b o) (outside n o')
  cut p d seven = record {
    outcome = outcome_of act;
    due = p.due;
    front = d.front seven;
    cause = elim (d.cause seven) [
      | inl failed ↦ inl (some_bytes act.store m n o o' failed.0, write_failed call act.store b m n o o' p.at less failed.0, failed.1)
      | inr failed ↦ inr (failed.0, stores call act.store b.held m.held n.held p.at stay failed.1, has_text o.taken (outcome_of act).text failed.2)
    ];
  }

  whole_told : (tells : Bool) → IsPrepared tells call b act → Performed tells act (outside m o) (outside n o') status → OnTrue tells (IsAnswer status → IsWhole call (outside b o) (outside n o') status)
  whole_told true p d = whole p d
  whole_told false p d = tt

  cut_told : (tells : Bool) → IsPrepared tells call b act → Performed tells act (outside m o) (outside n o') status → OnTrue tells (status ≡ 7 → IsCut call (outside b o) (outside n o'))
  cut_told true p d = cut p d
  cut_told false p d = tt

  range : (tells : Bool) → IsPrepared tells call b act → Performed tells act (outside m o) (outside n o') status → (status ≤ 9) × (status ≢ 1) × (status ≢ 6)
  range tells p d = elim d.range [
    | inl same ↦ (let low = number_low act.status in omega (arith, same, low), (λ one. p.is_command (sym same ∙ one)), (λ six. p.answered.0 (sym same ∙ six)))
    | inr more ↦ elim more [
      | inl seven ↦ (omega (arith, seven), (λ one. absurd (omega (arith, seven, one))), (λ six. absurd (omega (arith, seven, six))))
      | inr eight ↦ (omega (arith, eight), (λ one. absurd (omega (arith, eight, one))), (λ six. absurd (omega (arith, eight, six))))
    ]
  ]

  refused : (tells : Bool) (s : Option Store) → IfSome s (λ x. number_of act.status ≡ 0) → OthersKept s m.held n.held → status ≡ number_of act.status → 0 < status → AllStay m.held n.held
  refused tells None zero kept same some = kept
  refused tells (Some x) zero kept same some = absurd (omega (arith, zero, same, some))

  stays : (tells : Bool) → IsPrepared tells call b act → Performed tells act (outside m o) (outside n o') status → 0 < status → status ≢ 7 → AllStay b.held n.held
  stays tells p d some other = elim d.range [
    | inl same ↦ stay_since b.held m.held n.held stay (refused tells act.store p.stored d.others same some)
    | inr more ↦ elim more [
      | inl seven ↦ absurd (other seven)
      | inr eight ↦ stay_since b.held m.held n.held stay (d.kept eight)
    ]
  ]

  unwritten : (tells : Bool) → IsPrepared tells call b act → Performed tells act (outside m o) (outside n o') status → status ≡ 7 → WriteFailed call (outside b o) (outside n o') ⊎ PutFailed (outside b o) (outside n o')
  unwritten tells p d seven = elim (d.cause seven) [
    | inl failed ↦ inl (write_failed call act.store b m n o o' p.at less failed.0)
    | inr failed ↦ inr failed.0
  ]

  pub performed : (tells : Bool) → IsPrepared tells call b act → Performed tells act (outside m o) (outside n o') status → Went tells call (outside b o) (outside n o') status
  performed tells p d =
      let r = range tells p d in
      record {
        range = r.0;
        is_command = r.1;
        whole = whole_told tells p d;
        unread = λ six. absurd (r.2 six);
        unwritten = unwritten tells p d;
        cut = cut_told tells p d;
        nothing = λ both. elim both [ inl six ↦ absurd (r.2 six) | inr eight ↦ d.nothing eight ];
        quiet = d.quiet;
        others = others call act.store b.held m.held n.held p.at stay d.others;
        stays = stays tells p d;
      }

-- ---- a call of which nothing was prepared

no_whole : (tells : Bool) (call : Call) (b n : Outside) (status : ℕ) → (IsAnswer status → ⊥) → OnTrue tells (IsAnswer status → IsWhole call b n status)
no_whole true call b n status none = λ answer. absurd (none answer)
no_whole false call b n status none = tt

no_cut : (tells : Bool) (call : Call) (b n : Outside) (status : ℕ) → status ≢ 7 → OnTrue tells (status ≡ 7 → IsCut call b n)
no_cut true call b n status other = λ seven. absurd (other seven)
no_cut false call b n status other = tt

-- a read that failed
read_failed : (tells : Bool) (call : Call) (b n : FilesState) (o : SinkState) (name : List ℕ) → Failed b n name → IsReached tells call b.held name → ReadFailed tells call (outside b o) (outside n o)
read_failed tells call b n o name failed (inl is) = inl (subst (Failed b n) is failed)
read_failed tells call b n o name failed (inr (inl (is, reached))) = inr (inl (subst (λ (f : Option (List ℕ)). IsSomeAnd f (Failed b n)) (sym is) failed, reached))
read_failed tells call b n o name failed (inr (inr (is, reached))) = inr (inr (subst (λ (f : Option (List ℕ)). IsSomeAnd f (Failed b n)) (sym is) failed, reached))

pub unread : (tells : Bool) (call : Call) (b n : FilesState) (o : SinkState) (name : List ℕ) → AllStay b.held n.held → Failed b n name → IsReached tells call b.held name
    → Went tells call (outside b o) (outside n o) 6
unread tells call b n o name stay failed reached = record {
  range = omega arith;
  is_command = λ one. absurd cc;
  whole = no_whole tells call (outside b o) (outside n o) 6 (λ answer. answer.0 refl);
  unread = λ six. read_failed tells call b n o name failed reached;
  unwritten = λ seven. absurd cc;
  cut = no_cut tells call (outside b o) (outside n o) 6 (λ seven. absurd cc);
  nothing = λ both. refl;
  quiet = λ other. refl;
  others = λ name other. stay name;
  stays = λ some other. stay;
}

-- ---- why a call ended

-- the image, if there is one, is stored in the file that the call writes
target_is_named : (call : Call) (s : Option Store) (name : List ℕ) → IsAtTarget call s → Contains (targets s) name → Contains (listed (target_of call)) name
target_is_named call None name at (k, low, is) = absurd (omega (arith, low))
target_is_named call (Some s) name at is = subst (λ (t : Option (List ℕ)). Contains (listed t) name) (sym at) is

pub performed_cause : (call : Call) (b m n : FilesState) (o o' : SinkState) (s : Option Store) (answer : Status) → IsAtTarget call s
    → NoneFell b.read_faults m.read_faults → NoneFell b.write_faults m.write_faults
    → HasCause [] (targets s) (outside m o) (outside n o') answer → HasCause (sources_of call) (listed (target_of call)) (outside b o) (outside n o') answer
performed_cause call b m n o o' s answer at reads writes cause =
    cause_since (sources_of call) (listed (target_of call)) b m n o o' answer reads writes
    (more_targets [] (targets s) (sources_of call) (listed (target_of call)) (outside m o) (outside n o') answer
    (λ name is. absurd (none_named name is)) (λ name is. target_is_named call s name at is) cause)
  where
    none_named : (name : List ℕ) → Contains {X = List ℕ} [] name → ⊥
    none_named name (k, low, is) = omega (arith, low)

-- a read that failed is of a file that the call names
pub unread_cause : (tells : Bool) (call : Call) (b n : FilesState) (o : SinkState) (why : PrepareError) (name : Bor (List ℕ)) → Prepares tells call b n (Err why) → why ≡ unready.Unread name
    → HasCause (sources_of call) (listed (target_of call)) (outside b o) (outside n o) (status.Unread name)
unread_cause tells call b n o why name prepared is =
    let failed = subst (λ (w : PrepareError). Prepares tells call b n (Err w)) is prepared in
    (reached_is_named tells call b.held name.now failed.1, failed.0)

-- What a call promises of its buffer, it promises of the sink below, once what waited is written.
use Rattle.std.proofs.Common.{◌≡◌, ◌≢◌, ◌≤◌, ◌<◌, ◌⊎◌, ◌∙◌, ◌∷◌, ℕ, List, [], Option, Bool, true, false, inl, inr, refl, sym, ap, subst, arith}
use Rattle.std.specs.Prelude.{codes, String}
use Rattle.std.specs.Global.{Global}
use Rattle.std.specs.Bool.{OnTrue}
use Rattle.std.proofs.lemmas.Bool.{cases_eq, OnTrue_at, OnTrue_from}
use Rattle.outside.specs.Outside.{FilesState, SinkState, Outside, outside, Rose, Appends, AppendsFront, HasTakenSome}
use Rattle.command_words.specs.Calls.{Call, Load}
use Rattle.command_answers.specs.Went.{IsWhole, IsCut, WriteFailed, PutFailed, Went, IsUsage}
use Rattle.command_answers.specs.declared.status.Status.{Status}
use Rattle.command_answers.specs.declared.status.Status.TheVariants as status
use Rattle.command_answers.specs.Acts.{number_of}
use Rattle.command_answers.specs.Causes.{HasCause}
use Rattle.command_answers.specs.Files.{sources_of, target_of}
use Rattle.command_answers.specs.Tried.{HasTried, HasTriedTarget}
use Rattle.command.specs.Due.{IsSummary}
use Rattle.command.specs.Made as of_make
use Rattle.command.specs.Made.{Made}
use Rattle.command.specs.Tried.{HasRead, HasWritten}
use Rattle.command.specs.Settled.{CauseStands, HasTakenNothing, IsSettled, whole, idle, lost}
use Rattle.command.proofs.Settling.{same_state, none_below, front_below, text_taken, whole_front, rose_below}

-- the sink below stands as the buffer, with its status; or what waited was not taken whole
data Ends (m w : SinkState) (s n : ℕ) : Type 0 where
  stands : n ≡ s → w ≡ m → Ends m w s n
  falls : n ≡ 7 → s ≢ 6 → s ≢ 8 → (rest : List ℕ) → Appends w.taken m.taken rest → Rose m.faults w.faults → HasTakenSome m.taken → Ends m w s n

-- where nothing was put with 6 and 8, nothing waits
ends : (b m w : SinkState) (s n : ℕ) → HasTakenNothing b.taken → ((s ≡ 6) ⊎ (s ≡ 8) → m.taken ≡ b.taken) → IsSettled m w s n → Ends m w s n
ends b m w s n none nothing (whole is taken faults) = stands is (same_state w m taken faults)
ends b m w s n none nothing (idle is which rest below faults) =
    stands is (same_state w m (none_below b.taken m.taken w.taken rest none (nothing which) below) faults)
ends b m w s n none nothing (lost is six eight rest below rose some) = falls is six eight rest below rose some

-- ---- a command

module _ (call : Call) (f f' : FilesState) (b m w : SinkState) (s : ℕ) (none : HasTakenNothing b.taken) (rest : List ℕ) (below : Appends w.taken m.taken rest) (rose : Rose m.faults w.faults) (some : HasTakenSome m.taken) where
  put_failed : (m.faults ≡ b.faults) ⊎ Rose b.faults m.faults → PutFailed (outside f b) (outside f' w)
  put_failed since = rose_below b.faults m.faults w.faults since rose

  cut_whole : (went : IsWhole call (outside f b) (outside f' m) s) → m.faults ≡ b.faults → IsCut call (outside f b) (outside f' w)
  cut_whole went quiet = record {
    outcome = went.outcome;
    due = went.due;
    front = front_below b.taken m.taken w.taken went.outcome.text rest none (whole_front b.taken m.taken went.outcome.text went.put) below;
    cause = inr (put_failed (inl quiet), went.stored, text_taken b.taken m.taken went.outcome.text none some went.put);
  }

  cut_front : IsCut call (outside f b) (outside f' m) → IsCut call (outside f b) (outside f' w)
  cut_front c = record {
    outcome = c.outcome;
    due = c.due;
    front = front_below b.taken m.taken w.taken c.outcome.text rest none c.front below;
    cause = elim c.cause [
      | inl write ↦ inl (write.0, write.1, none_below b.taken m.taken w.taken rest none write.2 below ∙ write.2)
      | inr put ↦ inr (put_failed (inr put.0), put.1, put.2)
    ];
  }

  cut_told : (tells : Bool) → s ≢ 6 → s ≢ 8 → Went tells call (outside f b) (outside f' m) s → OnTrue tells (IsCut call (outside f b) (outside f' w))
  cut_told false six eight went = tt
  cut_told true six eight went = elim (cases_eq s 7) [
    | inl seven ↦ cut_front (went.cut seven)
    | inr other ↦ cut_whole (went.whole (six, other, eight)) (went.quiet other)
  ]

  unwritten : (tells : Bool) → Went tells call (outside f b) (outside f' m) s → WriteFailed call (outside f b) (outside f' w) ⊎ PutFailed (outside f b) (outside f' w)
  unwritten tells went = elim (cases_eq s 7) [
    | inl seven ↦ elim (went.unwritten seven) [ inl write ↦ inl write | inr put ↦ inr (put_failed (inr put)) ]
    | inr other ↦ inr (put_failed (inl (went.quiet other)))
  ]

  went_lost : (tells : Bool) → s ≢ 6 → s ≢ 8 → Went tells call (outside f b) (outside f' m) s → Went tells call (outside f b) (outside f' w) 7
  went_lost tells six eight went = record {
    range = omega arith;
    is_command = λ e. absurd (omega (arith, e));
    whole = OnTrue_from tells _ (λ tell answer. absurd (answer.1 refl));
    unread = λ e. absurd (omega (arith, e));
    unwritten = λ e. unwritten tells went;
    cut = OnTrue_from tells _ (λ tell e. OnTrue_at tell (cut_told tells six eight went));
    nothing = λ which. absurd (elim which [ inl e ↦ omega (arith, e) | inr e ↦ omega (arith, e) ]);
    quiet = λ other. absurd (other refl);
    others = went.others;
    stays = λ more other. absurd (other refl);
  }

pub went_settled : (tells : Bool) (call : Call) (f f' : FilesState) (b m w : SinkState) (s n : ℕ) → HasTakenNothing b.taken
    → Went tells call (outside f b) (outside f' m) s → IsSettled m w s n → Went tells call (outside f b) (outside f' w) n
went_settled tells call f f' b m w s n none went settled = by (ends b m w s n none went.nothing settled) where
  by : Ends m w s n → Went tells call (outside f b) (outside f' w) n
  by (stands is state) = subst (λ (k : ℕ). Went tells call (outside f b) (outside f' w) k) (sym is) (subst (λ (o : SinkState). Went tells call (outside f b) (outside f' o) s) (sym state) went)
  by (falls is six eight rest below rose some) =
      subst (λ (k : ℕ). Went tells call (outside f b) (outside f' w) k) (sym is) (went_lost call f f' b m w s none rest below rose some tells six eight went)

-- ---- make

module _ (load : Load) (f f' : FilesState) (b m w : SinkState) (s : ℕ) (none : HasTakenNothing b.taken) (rest : List ℕ) (below : Appends w.taken m.taken rest) (rose : Rose m.faults w.faults) where
  line_failed : (m.faults ≡ b.faults) ⊎ Rose b.faults m.faults → of_make.PutFailed (outside f b) (outside f' w)
  line_failed since = rose_below b.faults m.faults w.faults since rose

  load_cut : (line : List ℕ) → of_make.IsCutBy load line (outside f b) (outside f' m) → of_make.IsCutBy load line (outside f b) (outside f' w)
  load_cut line (of_make.no_program failed others same) =
      of_make.no_program failed others (none_below b.taken m.taken w.taken rest none same below ∙ same)
  load_cut line (of_make.no_script failed stored same) =
      of_make.no_script failed stored (none_below b.taken m.taken w.taken rest none same below ∙ same)
  load_cut line (of_make.no_line failed texts front) =
      of_make.no_line (line_failed (inr failed)) texts (front_below b.taken m.taken w.taken line rest none front below)

  load_told : (tells : Bool) → s ≢ 8 → Made tells load (outside f b) (outside f' m) s
      → OnTrue tells ((line : List ℕ) × IsSummary load.key load.count line × of_make.IsCutBy load line (outside f b) (outside f' w))
  load_told false eight made = tt
  load_told true eight made = elim made.range [
    | inl zero ↦
        let put = made.line zero in (
          put.0,
          put.1,
          of_make.no_line (line_failed (inl (made.quiet (λ e. absurd (omega (arith, e, zero)))))) (made.stored zero)
              (front_below b.taken m.taken w.taken put.0 rest none (whole_front b.taken m.taken put.0 put.2) below),
        )
    | inr later ↦ elim later [
      | inl seven ↦ let told = made.cut seven in (told.0, told.1, load_cut told.0 told.2)
      | inr is ↦ absurd (eight is)
    ]
  ]

  load_unwritten : (tells : Bool) → s ≢ 8 → Made tells load (outside f b) (outside f' m) s
      → of_make.ProgramFailed load (outside f b) (outside f' w) ⊎ (of_make.ScriptFailed load (outside f b) (outside f' w) ⊎ of_make.PutFailed (outside f b) (outside f' w))
  load_unwritten tells eight made = elim made.range [
    | inl zero ↦ inr (inr (line_failed (inl (made.quiet (λ e. absurd (omega (arith, e, zero)))))))
    | inr later ↦ elim later [
      | inl seven ↦ elim (made.unwritten seven) [
        | inl program ↦ inl program
        | inr more ↦ elim more [ inl script ↦ inr (inl script) | inr put ↦ inr (inr (line_failed (inr put))) ]
      ]
      | inr is ↦ absurd (eight is)
    ]
  ]

  made_lost : (tells : Bool) → s ≢ 8 → Made tells load (outside f b) (outside f' m) s → Made tells load (outside f b) (outside f' w) 7
  made_lost tells eight made = record {
    range = inr (inl refl);
    line = λ e. absurd (omega (arith, e));
    stored = OnTrue_from tells _ (λ tell e. absurd (omega (arith, e)));
    unwritten = λ e. load_unwritten tells eight made;
    cut = OnTrue_from tells _ (λ tell e. OnTrue_at tell (load_told tells eight made));
    nothing = λ e. absurd (omega (arith, e));
    kept = OnTrue_from tells _ (λ tell e. absurd (omega (arith, e)));
    quiet = λ other. absurd (other refl);
    others = made.others;
  }

made_nothing : (tells : Bool) (load : Load) (before now : Outside) (s : ℕ) → Made tells load before now s → (s ≡ 6) ⊎ (s ≡ 8) → now.out.taken ≡ before.out.taken
made_nothing tells load before now s made (inr eight) = made.nothing eight
made_nothing tells load before now s made (inl six) =
    absurd (elim made.range [ inl e ↦ omega (arith, e, six) | inr later ↦ elim later [ inl e ↦ omega (arith, e, six) | inr e ↦ omega (arith, e, six) ] ])

pub made_settled : (tells : Bool) (load : Load) (f f' : FilesState) (b m w : SinkState) (s n : ℕ) → HasTakenNothing b.taken
    → Made tells load (outside f b) (outside f' m) s → IsSettled m w s n → Made tells load (outside f b) (outside f' w) n
made_settled tells load f f' b m w s n none made settled =
    by (ends b m w s n none (made_nothing tells load (outside f b) (outside f' m) s made) settled) where
      by : Ends m w s n → Made tells load (outside f b) (outside f' w) n
      by (stands is state) = subst (λ (k : ℕ). Made tells load (outside f b) (outside f' w) k) (sym is) (subst (λ (o : SinkState). Made tells load (outside f b) (outside f' o) s) (sym state) made)
      by (falls is six eight rest below rose some) =
          subst (λ (k : ℕ). Made tells load (outside f b) (outside f' w) k) (sym is) (made_lost load f f' b m w s none rest below rose tells eight made)

-- ---- words that are no command

usage_since : (f f' : FilesState) (b m : SinkState) (s : ℕ) → IsUsage (outside f b) (outside f' m) s → (m.faults ≡ b.faults) ⊎ Rose b.faults m.faults
usage_since f f' b m s usage = elim usage.answer [
  | inl one ↦ inl (usage.quiet (λ e. absurd (omega (arith, e, one.0))))
  | inr seven ↦ inr seven.1
]

usage_front : (f f' : FilesState) (b m : SinkState) (s : ℕ) → IsUsage (outside f b) (outside f' m) s → AppendsFront b.taken m.taken (codes "usage\n")
usage_front f f' b m s usage = elim usage.answer [
  | inl one ↦ whole_front b.taken m.taken (codes "usage\n") one.1
  | inr seven ↦ seven.2
]

usage_nothing : (f f' : FilesState) (b m : SinkState) (s : ℕ) → IsUsage (outside f b) (outside f' m) s → (s ≡ 6) ⊎ (s ≡ 8) → m.taken ≡ b.taken
usage_nothing f f' b m s usage which = absurd (elim usage.answer [
  | inl one ↦ elim which [ inl e ↦ omega (arith, e, one.0) | inr e ↦ omega (arith, e, one.0) ]
  | inr seven ↦ elim which [ inl e ↦ omega (arith, e, seven.0) | inr e ↦ omega (arith, e, seven.0) ]
])

pub usage_settled : (f f' : FilesState) (b m w : SinkState) (s n : ℕ) → HasTakenNothing b.taken
    → IsUsage (outside f b) (outside f' m) s → IsSettled m w s n → IsUsage (outside f b) (outside f' w) n
usage_settled f f' b m w s n none usage settled = by (ends b m w s n none (usage_nothing f f' b m s usage) settled) where
  by : Ends m w s n → IsUsage (outside f b) (outside f' w) n
  by (stands is state) = subst (λ (k : ℕ). IsUsage (outside f b) (outside f' w) k) (sym is) (subst (λ (o : SinkState). IsUsage (outside f b) (outside f' o) s) (sym state) usage)
  by (falls is six eight rest below rose some) = record {
    answer = inr (is, rose_below b.faults m.faults w.faults (usage_since f f' b m s usage) rose, front_below b.taken m.taken w.taken (codes "usage\n") rest none (usage_front f f' b m s usage) below);
    quiet = λ other. absurd (other is);
    stays = usage.stays;
  }

-- ---- the files that were tried, by the status

pub tried_settled : (names before now : List (List ℕ)) (m w : SinkState) (s n : ℕ) → HasTried names before now s → IsSettled m w s n → HasTried names before now n
tried_settled names before now m w s n h (whole is taken faults) = subst (HasTried names before now) (sym is) h
tried_settled names before now m w s n h (idle is which rest below faults) = subst (HasTried names before now) (sym is) h
tried_settled names before now m w s n h (lost is six eight rest below rose some) =
    record { count = h.count; is = h.is; all = λ zero. absurd (omega (arith, is, zero)); some = λ _. h.some eight }

target_settled : (target : Option (List ℕ)) (before now : List (List ℕ)) (m w : SinkState) (s n : ℕ) → HasTriedTarget target before now s → IsSettled m w s n → HasTriedTarget target before now n
target_settled target before now m w s n h (whole is taken faults) = subst (HasTriedTarget target before now) (sym is) h
target_settled target before now m w s n h (idle is which rest below faults) = subst (HasTriedTarget target before now) (sym is) h
target_settled target before now m w s n h (lost is six eight rest below rose some) = elim h [ inl none ↦ inl none | inr written ↦ inr (written.0, inr (inl is)) ]

pub read_settled : (words : List (String Global)) (before now : List (List ℕ)) (m w : SinkState) (s n : ℕ) → HasRead words before now s → IsSettled m w s n → HasRead words before now n
read_settled words before now m w s n h settled = record {
  command = λ call is. tried_settled (sources_of call) before now m w s n (h.command call is) settled;
  other = h.other;
}

pub written_settled : (words : List (String Global)) (before now : List (List ℕ)) (m w : SinkState) (s n : ℕ) → HasWritten words before now s → IsSettled m w s n → HasWritten words before now n
written_settled words before now m w s n h settled = record {
  command = λ call is. target_settled (target_of call) before now m w s n (h.command call is) settled;
  load = λ load is. tried_settled (load.program ∷ load.script ∷ []) before now m w s n (h.load load is) settled;
  other = h.other;
}

-- ---- the status

pub status_settled : (m w : SinkState) (s n : ℕ) → IsSettled m w s n → (n ≡ s) ⊎ (n ≡ 7)
status_settled m w s n (whole is taken faults) = inl is
status_settled m w s n (idle is which rest below faults) = inl is
status_settled m w s n (lost is six eight rest below rose some) = inr is

pub quiet_settled : (before : ℕ) (m w : SinkState) (s n : ℕ) → (s ≢ 7 → m.faults ≡ before) → IsSettled m w s n → n ≢ 7 → w.faults ≡ before
quiet_settled before m w s n quiet (whole is taken faults) other = faults ∙ quiet (λ e. other (is ∙ e))
quiet_settled before m w s n quiet (idle is which rest below faults) other = faults ∙ quiet (λ e. other (is ∙ e))
quiet_settled before m w s n quiet (lost is six eight rest below rose some) other = absurd (other is)

-- what holds of a call that answers 0 holds still where the call does now
pub zero_settled : (P : SinkState → Type 0) (tells : Bool) (call : Call) (f f' : FilesState) (b m w : SinkState) (s n : ℕ) → HasTakenNothing b.taken
    → Went tells call (outside f b) (outside f' m) s → OnTrue tells (s ≡ 0 → P m) → IsSettled m w s n → OnTrue tells (n ≡ 0 → P w)
zero_settled P tells call f f' b m w s n none went done settled = OnTrue_from tells _ (λ tell zero. by tell zero (ends b m w s n none went.nothing settled)) where
  by : tells ≡ true → n ≡ 0 → Ends m w s n → P w
  by tell zero (stands is state) = subst P (sym state) (OnTrue_at tell done (sym is ∙ zero))
  by tell zero (falls is six eight rest below rose some) = absurd (omega (arith, is, zero))

-- what holds of a status below 6 holds of that now
pub low_settled : (P : ℕ → Type 0) (tells : Bool) (m w : SinkState) (s n : ℕ) → OnTrue tells (s < 6 → P s) → IsSettled m w s n → OnTrue tells (n < 6 → P n)
low_settled P tells m w s n told settled = OnTrue_from tells _ (λ tell low. by tell low (status_settled m w s n settled)) where
  by : tells ≡ true → n < 6 → (n ≡ s) ⊎ (n ≡ 7) → P n
  by tell low (inl is) = subst P (sym is) (OnTrue_at tell told (subst (λ k. k < 6) is low))
  by tell low (inr is) = absurd (omega (arith, is, low))

-- ---- what the status names

faults_since : (sources targets : List (List ℕ)) (f f' : FilesState) (b m : SinkState) (s : Status) → (number_of s ≢ 7 → m.faults ≡ b.faults)
    → HasCause sources targets (outside f b) (outside f' m) s → (m.faults ≡ b.faults) ⊎ Rose b.faults m.faults
faults_since sources targets f f' b m (status.Unwritten name) quiet (is, rose, same) = inl same
faults_since sources targets f f' b m status.Unput quiet rose = inr rose
faults_since sources targets f f' b m (status.Unread name) quiet cause = inl (quiet (λ e. absurd cc))
faults_since sources targets f f' b m status.Done quiet cause = inl (quiet (λ e. absurd cc))
faults_since sources targets f f' b m status.Usage quiet cause = inl (quiet (λ e. absurd cc))
faults_since sources targets f f' b m status.Text quiet cause = inl (quiet (λ e. absurd cc))
faults_since sources targets f f' b m status.Late quiet cause = inl (quiet (λ e. absurd cc))
faults_since sources targets f f' b m status.Image quiet cause = inl (quiet (λ e. absurd cc))
faults_since sources targets f f' b m status.Script quiet cause = inl (quiet (λ e. absurd cc))
faults_since sources targets f f' b m status.Memory quiet cause = inl (quiet (λ e. absurd cc))
faults_since sources targets f f' b m status.Log quiet cause = inl (quiet (λ e. absurd cc))

-- the buffer's count of faults is that of the sink below
same_faults : (sources targets : List (List ℕ)) (f f' : FilesState) (b m w : SinkState) (s : Status) → w.faults ≡ m.faults
    → HasCause sources targets (outside f b) (outside f' m) s → HasCause sources targets (outside f b) (outside f' w) s
same_faults sources targets f f' b m w (status.Unread name) faults cause = cause
same_faults sources targets f f' b m w (status.Unwritten name) faults (is, rose, same) = (is, rose, faults ∙ same)
same_faults sources targets f f' b m w status.Unput faults rose = subst (Rose b.faults) (sym faults) rose
same_faults sources targets f f' b m w status.Done faults cause = tt
same_faults sources targets f f' b m w status.Usage faults cause = tt
same_faults sources targets f f' b m w status.Text faults cause = tt
same_faults sources targets f f' b m w status.Late faults cause = tt
same_faults sources targets f f' b m w status.Image faults cause = tt
same_faults sources targets f f' b m w status.Script faults cause = tt
same_faults sources targets f f' b m w status.Memory faults cause = tt
same_faults sources targets f f' b m w status.Log faults cause = tt

pub cause_settled : (sources targets : List (List ℕ)) (f f' : FilesState) (b m w : SinkState) (s n : Status) → (number_of s ≢ 7 → m.faults ≡ b.faults)
    → HasCause sources targets (outside f b) (outside f' m) s → CauseStands m w s n → HasCause sources targets (outside f b) (outside f' w) n
cause_settled sources targets f f' b m w s n quiet cause (inl (is, faults)) =
    subst (HasCause sources targets (outside f b) (outside f' w)) (sym is) (same_faults sources targets f f' b m w s faults cause)
cause_settled sources targets f f' b m w s n quiet cause (inr (is, rose)) =
    subst (HasCause sources targets (outside f b) (outside f' w)) (sym is)
    (rose_below b.faults m.faults w.faults (faults_since sources targets f f' b m s quiet cause) rose)

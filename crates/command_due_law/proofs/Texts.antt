-- What a program text comes to is one.
use Rattle.std.proofs.Common.{◌≡◌, ℕ, ap, sym, subst, ◌∙◌}
use Rattle.syntax_tree.specs.declared.place.Place.{Place}
use Rattle.syntax_tree.specs.Placed.{Prog, plain}
use Rattle.static_rule.specs.First.{IsFirst}
use Rattle.front_end.specs.ProgramLaws.{HasOneProgram, HasProgramOrFault}
use Rattle.front_end.specs.OneFault.{HasOneFault}
use Rattle.code_cost.specs.Rules.{SizeFails}
use Rattle.sched_table.specs.declared.table.Table.{Table}
use Rattle.built_image.specs.Built.{IsBuilt, IsLate}
use Rattle.built_image.specs.Shown.{IsTableOf}
use Rattle.built_image_law.specs.Once.{BuiltImagesAreOne, TablesAreOne, TimelyOrLate}
use Rattle.command_due.specs.Source.{IsTextFault, of_program, of_size, fault_line, late_report}
use Rattle.command_due.specs.CommandsDue.{IsRefused, faulty, late, told}
use Rattle.command_due_law.specs.DueOnce.{WrittenOnce, WrittenOrFaulty, TextsHaveOneFault, TimelyTextsHaveOneImage, TimelyTextsAreNotLate, LateReportsAreOne, RefusalsAreOne, TimelyTextsAreNotRefused}
use Rattle.command_due_law.proofs.DueOnceFirsts.{one_first}

-- ---- the text

pub written_once : HasOneProgram → WrittenOnce
written_once one text g h first second = one text g h first.program second.program

pub written_or_faulty : HasOneProgram → HasProgramOrFault → WrittenOrFaulty
written_or_faulty one apart text g number place written fault = by fault
  where
    by : IsTextFault text number place → ⊥
    by (of_program is) = apart text g number place written.program is
    by (of_size h program first) = written.fits number place (subst (λ (x : Prog Place). SizeFails x number place) (one text h g program written.program) first.broken)

pub texts_have_one_fault : HasOneProgram → HasProgramOrFault → HasOneFault → TextsHaveOneFault
texts_have_one_fault one apart faults text number other place there first second = by first second
  where
    by : IsTextFault text number place → IsTextFault text other there → (number ≡ other) × (place ≡ there)
    by (of_program is) (of_program also) = faults text number other place there is also
    by (of_program is) (of_size g program size) = absurd (apart text g number place program is)
    by (of_size g program size) (of_program is) = absurd (apart text g other there program is)
    by (of_size g program size) (of_size h also later) =
        one_first (SizeFails g) number other place there size
        (subst (λ (x : Prog Place). IsFirst (SizeFails x) (record { number = other; place = there })) (one text h g also program) later)

pub same_line : (number other : ℕ) (place there : Place) → (number ≡ other) × (place ≡ there) → fault_line number place ≡ fault_line other there
same_line number other place there same = ap (λ n. fault_line n place) same.0 ∙ ap (λ (p : Place). fault_line other p) same.1

-- ---- with an overhead

pub timely_texts_have_one_image : WrittenOnce → BuiltImagesAreOne → TimelyTextsHaveOneImage
timely_texts_have_one_image once built over text m n one two =
    built (plain one.tree) over m n one.built (subst (λ (g : Prog Place). IsBuilt (plain g) over n) (once text two.tree one.tree two.written one.written) two.built)

pub timely_texts_are_not_late : WrittenOnce → TimelyOrLate → TimelyTextsAreNotLate
timely_texts_are_not_late once apart show over text report n timely is =
    apart (plain timely.tree) over n timely.built (subst (λ (g : Prog Place). IsLate (plain g) over) (once text is.tree timely.tree is.written timely.written) is.late)

pub late_reports_are_one : WrittenOnce → TablesAreOne → LateReportsAreOne
late_reports_are_one once tables show over text report other one two =
    let trees : one.tree ≡ two.tree = once text one.tree two.tree one.written two.written in
    let same : one.table ≡ two.table = tables (plain two.tree) over one.table two.table (subst (λ (g : Prog Place). IsTableOf (plain g) over one.table) trees one.tabled) two.tabled in
    one.shown ∙ (ap (λ (g : Prog Place). late_report show (plain g) one.table) trees ∙ (ap (λ (t : Table). late_report show (plain two.tree) t) same ∙ sym two.shown))

pub refusals_are_one : WrittenOrFaulty → TextsHaveOneFault → LateReportsAreOne → RefusalsAreOne
refusals_are_one apart faults reports show over text outcome other first second = by first second
  where
    by : IsRefused show over text outcome → IsRefused show over text other → outcome ≡ other
    by (faulty number place fault is) (faulty n p also was) =
        is ∙ (ap (told 2) (same_line number n place p (faults text number n place p fault also)) ∙ sym was)
    by (faulty number place fault is) (late report unsolved was) = absurd (apart text unsolved.tree number place unsolved.written fault)
    by (late report unsolved is) (faulty number place fault was) = absurd (apart text unsolved.tree number place unsolved.written fault)
    by (late report unsolved is) (late r also was) = is ∙ (ap (told 3) (reports show over text report r unsolved also) ∙ sym was)

pub timely_texts_are_not_refused : WrittenOrFaulty → TimelyTextsAreNotLate → TimelyTextsAreNotRefused
timely_texts_are_not_refused apart in_time show over text n outcome timely refused = by refused
  where
    by : IsRefused show over text outcome → ⊥
    by (faulty number place fault is) = apart text timely.tree number place timely.written fault
    by (late report unsolved is) = in_time show over text report n timely unsolved

use Rattle.std.proofs.Common.{◌≡◌, ℕ, Result, Ok, Err, refl, arith}
use Rattle.std.specs.Prelude.{⊤, IfOk, OnOk, OnErr}
use Rattle.outside.specs.Outside.{Rose, next_count}
use Rattle.outside.proofs.real.RealFilesFiles.TheImpl.Goals as goal

-- nothing is said of an Ok
untold : {A E : Type 0} (answer : Result A E) → IfOk answer (λ _. ⊤)
untold (Ok _) = tt
untold (Err _) = tt

undone : {A E : Type 0} (answer : Result A E) → OnOk answer ⊤
undone (Ok _) = tt
undone (Err _) = tt

-- an Err that is known raised the number
rose : {A E : Type 0} (answer : Result A E) (e : E) (before now : ℕ) → OnErr answer (now ≡ next_count before) → answer ≡ Err e → Rose before now
rose (Ok x) e before now raised is = grind (arith)
rose (Err d) e before now raised is = grind (arith)

pub read-tells : goal.read-tells
read-tells g c = record {
  within = c.ensures.within;
  whole = untold c.result;
  long = λ _. tt;
  longer = tt;
  failed = rose c.result _ c.args.self.now.faults c.new.self.now.faults c.ensures.raised;
  files = λ _. refl;
  read_counts = λ _. c.ensures.count;
  write_counts = λ _. c.ensures.count;
  tried = c.ensures.tried;
  once = c.ensures.once;
  writes = c.ensures.writes;
}

pub write-tells : goal.write-tells
write-tells g c = record {
  stored = undone c.result;
  failed = rose c.result _ c.args.self.now.faults c.new.self.now.faults c.ensures.raised;
  others = λ _ _. refl;
  kept = λ _ _. refl;
  read_counts = λ _. c.ensures.count;
  write_counts = λ _. c.ensures.count;
  tried = c.ensures.tried;
  once = c.ensures.once;
  reads = c.ensures.reads;
}

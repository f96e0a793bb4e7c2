-- Without a failure what is due is done.
use Rattle.std.proofs.Common.{inl, inr, ℕ, Bool, true, false}
use Rattle.std.specs.Bool.{OnTrue}
use Rattle.std.proofs.lemmas.Bool.{cases_eq}
use Rattle.outside.specs.Outside.{Outside}
use Rattle.command_words.specs.Calls.{Call}
use Rattle.command_answers.specs.Went.{Went, Completes}

told : (call : Call) (before now : Outside) (status : ℕ) → Went true call before now status → Completes call before now status
told call before now status w no_source no_script no_log no_write no_put =
    elim (cases_eq status 6) [
      | inl six ↦ absurd (elim (w.unread six) [ inl source ↦ no_source source | inr later ↦ elim later [ inl script ↦ no_script script.0 | inr log ↦ no_log log.0 ] ])
      | inr not_six ↦ elim (cases_eq status 7) [
        | inl seven ↦ absurd (elim (w.unwritten seven) [ inl write ↦ no_write write | inr put ↦ no_put put ])
        | inr not_seven ↦ elim (cases_eq status 8) [
          | inl eight ↦ inl eight
          | inr not_eight ↦ inr (w.whole (not_six, not_seven, not_eight))
        ]
      ]
    ]

pub completes : (tells : Bool) (call : Call) (before now : Outside) (status : ℕ) → Went tells call before now status → OnTrue tells (Completes call before now status)
completes true call before now status w = told call before now status w
completes false call before now status w = tt

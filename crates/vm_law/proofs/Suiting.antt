-- From the lines of a text to the lines of a run.
use Rattle.std.proofs.Common.{◌≡◌, ◌≤◌, ◌<◌, ◌+◌, ◌∙◌, inl, inr, ℕ, zero, suc, List, [], ◌∷◌, length, map, Some, arith, refl, ap, sym, subst}
use Rattle.std.specs.Prelude.{AllPairs, pos, slice_get, slice_index_or}
use Rattle.std.proofs.lemmas.Bool.{cases_lt}
use Rattle.image.specs.declared.names.ImageNames.{ImageNames}
use Rattle.image.specs.Raw.{image_of}
use Rattle.machine_semantics.specs.Image.{Image, Line, Occurs}
use Rattle.image_reader_law.proofs.Names.{read_names}
use Rattle.script.specs.declared.script.ScriptLine.{ScriptLine}
use Rattle.script.specs.declared.script.ScriptLine.TheVariants.{Set, Occur}
use Rattle.script.specs.Scripts.{IsApart, IsLater, frame_of, tick_of}
use Rattle.vm_releases.specs.Begin.{line_of, lines_of}
use Rattle.vm_stretch.specs.StretchDue.{AreInOrder}
use Rattle.vm_stretch.specs.Quiet.{line_tick}
use Rattle.sched_timing.specs.Timed.{RespectsFrames}
use Rattle.vm_law.specs.ScriptSuits.{ScriptsForImagesReadSuit, ScriptsSuit}
use Rattle.vm_law.specs.Suits.{HasFrames}

-- any line
abbrev pub some_line : ScriptLine
some_line = Set 0 0 (pos 0)

-- a line of the run is that of a line of the text
record Is (lines : List ScriptLine) (i : ℕ) (l : Line) : Type 0 where
  line : ScriptLine
  same : line_of line ≡ l
  there : slice_index_or lines i some_line ≡ line
  within : i < length lines

one_line : (lines : List ScriptLine) (i : ℕ) (l : Line) → slice_get (map line_of lines) i ≡ Some l → Is lines i l
one_line [] i l at = absurd cc
one_line (x ∷ xs) zero l at = record { line = x; same = (let is : line_of x ≡ l = cc in is); there = refl; within = omega arith }
one_line (x ∷ xs) (suc i) l at = let rest = one_line xs i l at in record { line = rest.line; same = rest.same; there = rest.there; within = (let low = rest.within in omega (arith, low)) }

tick_is : (x : ScriptLine) → tick_of x ≡ line_tick (line_of x)
tick_is (Set tick dev value) = refl
tick_is (Occur tick event) = refl

-- what holds of each two lines of the text, the first before the second
pair : (R : ScriptLine → ScriptLine → Type 0) (lines : List ScriptLine) (i j : ℕ) (l m : Line) (a : Is lines i l) (b : Is lines j m) → AllPairs R lines → i < j → R a.line b.line
pair R lines i j l m a b all before = subst (λ (y : ScriptLine). R a.line y) b.there (subst (λ (x : ScriptLine). R x (slice_index_or lines j some_line)) a.there (all i j some_line before b.within))

in_order : (lines : List ScriptLine) → AllPairs IsLater lines → AreInOrder (lines_of lines)
in_order lines all i j l m at_l at_m le =
    let a = one_line lines i l at_l in
    let b = one_line lines j m at_m in
    let first : tick_of a.line ≡ line_tick l = tick_is a.line ∙ ap line_tick a.same in
    let second : tick_of b.line ≡ line_tick m = tick_is b.line ∙ ap line_tick b.same in
    elim (cases_lt i j) [
      | inl before ↦ (let later : tick_of a.line ≤ tick_of b.line = pair IsLater lines i j l m a b all before in omega (arith, first, second, later))
      | inr not_before ↦
          let same : i ≡ j = omega (arith, le, not_before) in
          let is : l ≡ m = (let e : Some l ≡ Some m = sym at_l ∙ (ap (λ (k : ℕ). slice_get (lines_of lines) k) same ∙ at_m) in cc) in
          let ticks : line_tick l ≡ line_tick m = ap line_tick is in
          omega (arith, ticks)
    ]

occurs : (x : ScriptLine) (t e : ℕ) → line_of x ≡ Occurs t e → x ≡ Occur t e
occurs (Set tick dev value) t e is = absurd cc
occurs (Occur tick event) t e is = let at : tick ≡ t = cc in let of : event ≡ e = cc in ap (λ (u : ℕ). Occur u event) at ∙ ap (λ (f : ℕ). Occur t f) of

apart : (names : ImageNames) (lines : List ScriptLine) (i j t u e : ℕ) → AllPairs (IsApart names) lines → i < j → slice_get (lines_of lines) i ≡ Some (Occurs t e) → slice_get (lines_of lines) j ≡ Some (Occurs u e) → t + frame_of names e ≤ u
apart names lines i j t u e all before at_l at_m =
    let a = one_line lines i (Occurs t e) at_l in
    let b = one_line lines j (Occurs u e) at_m in
    let p : IsApart names a.line b.line = pair (IsApart names) lines i j (Occurs t e) (Occurs u e) a b all before in
    let q : IsApart names (Occur t e) b.line = subst (λ (x : ScriptLine). IsApart names x b.line) (occurs a.line t e a.same) p in
    let r : IsApart names (Occur t e) (Occur u e) = subst (λ (x : ScriptLine). IsApart names (Occur t e) x) (occurs b.line u e b.same) q in
    r refl

respects : (names : ImageNames) (image : Image) (lines : List ScriptLine) (last : ℕ) → HasFrames names image → AllPairs (IsApart names) lines → RespectsFrames image (record { lines = lines_of lines; end_tick = last })
respects names image lines last frames all k p at kind i j t u differ at_l at_m =
    let frame : frame_of names p.event ≡ p.frame = frames k p at kind in
    elim (cases_lt i j) [
      | inl before ↦ inl (let far = apart names lines i j t u p.event all before at_l at_m in omega (arith, far, frame))
      | inr not_before ↦ elim (cases_lt j i) [
        | inl after ↦ inr (let far = apart names lines j i u t p.event all after at_m at_l in omega (arith, far, frame))
        | inr not_after ↦ absurd (differ (omega (arith, not_before, not_after)))
      ]
    ]

pub scripts_suit : ScriptsSuit
scripts_suit names image text lines last frames script = record {
  order = in_order lines script.begun.respects.order;
  frames = respects names image lines last frames script.begun.respects.frames;
  end = script.form;
}

pub scripts_for_images_read_suit : ScriptsForImagesReadSuit
scripts_for_images_read_suit bytes raw text lines last holds script = scripts_suit raw.names (image_of raw) text lines last (read_names bytes raw holds).frames script

-- What has its fields in their ranges in either version has them so in the second.
use Rattle.std.proofs.Common.{◌≡◌, ◌&&◌, ◌++◌, ◌^◌, ℕ, zero, suc, Bool, true, List, [], ◌∷◌, length, map, refl, subst, arith}
use Rattle.std.specs.Prelude.{nat_lt, nat_le}
use Rattle.std.proofs.lemmas.Bool.{and_parts, eqb-true}
use Rattle.machine_semantics.specs.Image.{Process}
use Rattle.image.specs.Bytes.{Version, First, Second}
use Rattle.image_format.specs.Format.{Format, each_is, is_fine, unless, u8, u16, checked}
use Rattle.image_format.specs.TreeFormat.{in_image, tree_format, u32_within, within}
use Rattle.image_format.proofs.Booleans.{together}
use Rattle.image_reader.specs.declared.counts.Counts.{Counts}
use Rattle.image_reader.specs.Grammar as g
use Rattle.image_reader.specs.File as f
use Rattle.image_reader_law.proofs.Fitting.{Fits, before_conditions}
use Rattle.image_reader_law.proofs.Ranged.{fine_within, least_long}

-- ---- fields

over_again : (version : Version) (over : ℕ) → (f.over_format version).is over ≡ true → (f.over_format Second).is over ≡ true
over_again First over h = subst (λ (n : ℕ). (f.over_format Second).is n ≡ true) (eqb-true 0 over h) refl
over_again Second over h = h

deadline_again : (version : Version) (frame deadline : ℕ) → (u32_within 10 1000000000).is frame ≡ true → (g.deadline_format version frame).is deadline ≡ true
    → (g.deadline_format Second frame).is deadline ≡ true
deadline_again Second frame deadline whole h = h
deadline_again First frame deadline whole h =
    let ranged : (nat_lt frame (2 ^ 32) && is_fine (within 10 frame frame)) ≡ true =
    together (nat_lt frame (2 ^ 32)) (is_fine (within 10 frame frame)) (and_parts (nat_lt frame (2 ^ 32)) (is_fine (within 10 1000000000 frame)) whole).0
    (fine_within 10 frame frame (least_long 10 1000000000 frame whole) (omega arith)) in
    subst (λ (n : ℕ). (g.deadline_format Second frame).is n ≡ true) (eqb-true frame deadline h) ranged

-- ---- processes

process_again : (version : Version) (counts : Counts) (taken : List (List ℕ)) (used : List ℕ) (x : List ℕ × Process) → (g.named_process_format version counts taken used).is x ≡ true
    → (g.named_process_format Second counts taken used).is x ≡ true
process_again version counts taken used x h =
    let p = x.1 in
    let name_is = (g.name_format taken).is x.0 in
    let process_is = (g.process_format version counts used).is p in
    let release : Version → Bool = λ v. (g.release_format v counts.events used).is (p.kind, (p.frame, (p.deadline, (p.first, (p.event, p.rank))))) in
    let trees_are = (tree_format (in_image counts.monitors) g.deepest).is p.body && (g.handler_tree_format counts.monitors (length p.numbers)).is p.handler_tree in
    let numbers_are = (g.numbers_format (length p.numbers)).is p.numbers && trees_are in
    let more = g.time_format.is (p.run, (p.susp, (p.waits, (p.block, p.bound)))) && (g.room_format.is (p.words, (p.stack, (p.locals, p.start))) && (g.handler_format.is (p.handler, length p.numbers) && numbers_are)) in
    let deadline : Version → Bool = λ v. (g.deadline_format v p.frame).is p.deadline in
    let kind_is = (checked u8 (λ kind. unless (nat_le kind 1) 6)).is p.kind in
    let frame_is = (u32_within 10 1000000000).is p.frame in
    let rest = (checked (u32_within 0 1000000000) (g.wrong_first p.kind)).is p.first && ((checked u16 (g.wrong_event counts.events used p.kind)).is p.event && u16.is p.rank) in
    let named = and_parts name_is process_is h in
    let a = and_parts (release version) more named.1 in
    let b = and_parts kind_is (frame_is && (deadline version && rest)) a.0 in
    let c = and_parts frame_is (deadline version && rest) b.1 in
    let d = and_parts (deadline version) rest c.1 in
    together name_is (release Second && more) named.0 (together (release Second) more (together kind_is (frame_is && (deadline Second && rest)) b.0
    (together frame_is (deadline Second && rest) c.0 (together (deadline Second) rest (deadline_again version p.frame p.deadline c.0 d.0) d.1))) a.1)

-- ---- the whole

each_again : {X : Type 0} (one other : List X → Format X) → ((earlier : List X) (x : X) → (one earlier).is x ≡ true → (other earlier).is x ≡ true)
    → (earlier : List X) (count : ℕ) (xs : List X) → each_is one earlier count xs ≡ true → each_is other earlier count xs ≡ true
each_again one other again earlier zero [] h = refl
each_again one other again earlier zero (x ∷ xs) h = cc
each_again one other again earlier (suc count) [] h = cc
each_again one other again earlier (suc count) (x ∷ xs) h =
    let tests = and_parts ((one earlier).is x) (each_is one (earlier ++ x ∷ []) count xs) h in
    together ((other earlier).is x) (each_is other (earlier ++ x ∷ []) count xs) (again earlier x tests.0) (each_again one other again (earlier ++ x ∷ []) count xs tests.1)

pub fits_again : (version : Version) (p : f.Parts) → Fits version p → Fits Second p
fits_again version p k = record {
  over = over_again version p.over k.over;
  counts = k.counts;
  program = k.program;
  devices = k.devices;
  events = k.events;
  monitors = k.monitors;
  conditions = k.conditions;
  routines = k.routines;
  processes = each_again (λ earlier. g.named_process_format version (f.counts_of p) (before_conditions p ++ map (λ (x : List ℕ × Process). x.0) earlier) (f.used_by earlier))
      (λ earlier. g.named_process_format Second (f.counts_of p) (before_conditions p ++ map (λ (x : List ℕ × Process). x.0) earlier) (f.used_by earlier))
      (λ earlier x h. process_again version (f.counts_of p) (before_conditions p ++ map (λ (x : List ℕ × Process). x.0) earlier) (f.used_by earlier) x h)
      [] (length p.processes) p.processes k.processes;
  code = k.code;
}

-- The routine that the meaning finds by a name is one of the text, of the process or of the program.
use Rattle.std.proofs.Common.{◌≡◌, ◌⊎◌, inl, inr, Bool, true, false, cond, List, [], ◌∷◌, ◌++◌, length, map, Option, Some, None, refl, ap, sym, ◌∙◌, subst, arith, length-append}
use Rattle.std.specs.Prelude.{Contains, filter_map, option_map, sum_by, bytes_eq}
use Rattle.std.proofs.lemmas.List.{length-map}
use Rattle.std.proofs.lemmas.List.Sums.{sum_by-cons}
use Rattle.std.proofs.lemmas.List.Elements.{Contains-append_left, Contains-append_right}
use Rattle.std.proofs.lemmas.Option.{same_Some, none-some}
use Rattle.base.proofs.Members.{front_or_behind, behind, at_front, none_in}
use Rattle.syntax_tree.specs.Plain as plain_of
use Rattle.syntax_tree.specs.Plain.{Name}
use Rattle.syntax_tree.specs.Placed.{Routine, Process, Decl, constant, device, event, routine, monitor, process, Prog, plain, plain_routine, plain_process, plain_decl}
use Rattle.syntax_tree.specs.Parts.{program_routines, routines}
use Rattle.syntax_tree.specs.declared.place.Place.{Place}
use Rattle.source_semantics.specs.Names.{named, routine_in, routines_in, routine_count}
use Rattle.source_semantics.specs.Run.{Found, of_program, of_process, entry_name, or_else, routine_named}
use Rattle.static_semantics.specs.Mirrors.{routine_of}

-- the routine of that name in a list
abbrev pub among : Name → List (Routine Place) → Option (Routine Place)
among f rs = named (λ r. r.name) f rs

-- ---- names are kept in the plain tree

among-plain : (f : Name) (rs : List (Routine Place)) → named entry_name f (map plain_routine rs) ≡ option_map plain_routine (among f rs)
among-plain f [] = refl
among-plain f (r ∷ rs) = by (bytes_eq r.name f) (among-plain f rs)
  where
    by : (b : Bool) → named entry_name f (map plain_routine rs) ≡ option_map plain_routine (among f rs)
        → cond b (Some (plain_routine r)) (named entry_name f (map plain_routine rs)) ≡ option_map plain_routine (cond b (Some r) (among f rs))
    by true rest = refl
    by false rest = rest

routines-plain : (ds : List (Decl Place)) → filter_map routine_in (map plain_decl ds) ≡ map plain_routine (program_routines ds)
routines-plain [] = refl
routines-plain (constant name q k ∷ ds) = routines-plain ds
routines-plain (device name q is_out ∷ ds) = routines-plain ds
routines-plain (event name q ∷ ds) = routines-plain ds
routines-plain (routine r ∷ ds) = ap (λ rs. plain_routine r ∷ rs) (routines-plain ds)
routines-plain (monitor m ∷ ds) = routines-plain ds
routines-plain (process q ∷ ds) = routines-plain ds

-- the routine of the text that was found
pub record IsPlainOf (g : Prog Place) (p : Process Place) (f : Name) (r : plain_of.Routine) : Type 0 where
  pub one : Routine Place
  pub listed : routine_of g p f ≡ Some one
  pub is : plain_routine one ≡ r

pub found_in_text : (g : Prog Place) (p : Process Place) (f : Name) (r : Found) → routine_named (plain g) (plain_process p) f ≡ Some r → IsPlainOf g p f r.routine
found_in_text g p f r e = by (among f p.routines) (among f (program_routines g.decls)) refl refl (sym both ∙ e)
  where
    both : routine_named (plain g) (plain_process p) f
        ≡ or_else (option_map (λ q. record { home = of_process; routine = q }) (option_map plain_routine (among f p.routines)))
        (option_map (λ q. record { home = of_program; routine = q }) (option_map plain_routine (among f (program_routines g.decls))))
    both i = or_else (option_map (λ q. record { home = of_process; routine = q }) (among-plain f p.routines i))
        (option_map (λ q. record { home = of_program; routine = q }) ((ap (named entry_name f) (routines-plain g.decls) ∙ among-plain f (program_routines g.decls)) i))

    by : (a b : Option (Routine Place)) → among f p.routines ≡ a → among f (program_routines g.decls) ≡ b
        → or_else (option_map (λ q. record { home = of_process; routine = q }) (option_map plain_routine a)) (option_map (λ q. record { home = of_program; routine = q }) (option_map plain_routine b)) ≡ Some r
        → IsPlainOf g p f r.routine
    by (Some one) b is is_b e = record { one = one; listed = ap (λ o. or_else o (among f (program_routines g.decls))) is; is = ap (λ (q : Found). q.routine) (same_Some _ r e) }
    by None (Some one) is is_b e = record { one = one; listed = ap (λ o. or_else o (among f (program_routines g.decls))) is ∙ is_b; is = ap (λ (q : Found). q.routine) (same_Some _ r e) }
    by None None is is_b e = absurd (none-some r e)

-- ---- where the routine stands

among-listed : (f : Name) (rs : List (Routine Place)) (one : Routine Place) → among f rs ≡ Some one → Contains rs one
among-listed f [] one e = absurd (none-some one e)
among-listed f (r ∷ rs) one e = by (bytes_eq r.name f) e (among-listed f rs one)
  where
    by : (b : Bool) → cond b (Some r) (among f rs) ≡ Some one → (among f rs ≡ Some one → Contains rs one) → Contains (r ∷ rs) one
    by true e rest = subst (Contains (r ∷ rs)) (same_Some r one e) (at_front r rs)
    by false e rest = behind r rs one (rest e)

pub routine_of-cases : (g : Prog Place) (p : Process Place) (f : Name) (one : Routine Place) → routine_of g p f ≡ Some one → Contains p.routines one ⊎ Contains (program_routines g.decls) one
routine_of-cases g p f one e = by (among f p.routines) refl e
  where
    by : (o : Option (Routine Place)) → among f p.routines ≡ o → or_else o (among f (program_routines g.decls)) ≡ Some one → Contains p.routines one ⊎ Contains (program_routines g.decls) one
    by (Some r) is e = inl (among-listed f p.routines one (is ∙ e))
    by None is e = inr (among-listed f (program_routines g.decls) one e)

-- one of a list, with what stands before it and behind it
pub record Split {X : Type 0} (xs : List X) (x : X) : Type 0 where
  pub before : List X
  pub after : List X
  pub is : xs ≡ before ++ x ∷ after

later : {X : Type 0} (y : X) (xs : List X) (x : X) → Split xs x → Split (y ∷ xs) x
later y xs x s = record { before = y ∷ s.before; after = s.after; is = ap (λ zs. y ∷ zs) s.is }

pub split-listed : {X : Type 0} (xs : List X) (x : X) → Contains xs x → Split xs x
split-listed [] x h = absurd (none_in x h)
split-listed (y ∷ xs) x h = by (front_or_behind y xs x h) (λ there. split-listed xs x there)
  where
    by : (y ≡ x) ⊎ Contains xs x → (Contains xs x → Split xs x) → Split (y ∷ xs) x
    by (inl same) rest = record { before = []; after = xs; is = ap (λ z. z ∷ xs) same }
    by (inr there) rest = later y xs x (rest there)

pub split-routine : (ds : List (Decl Place)) (r : Routine Place) → Contains (program_routines ds) r → Split ds (routine r)
split-routine [] r h = absurd (none_in r h)
split-routine (constant name q k ∷ ds) r h = later _ ds (routine r) (split-routine ds r h)
split-routine (device name q is_out ∷ ds) r h = later _ ds (routine r) (split-routine ds r h)
split-routine (event name q ∷ ds) r h = later _ ds (routine r) (split-routine ds r h)
split-routine (routine s ∷ ds) r h = by (front_or_behind s (program_routines ds) r h) (λ there. split-routine ds r there)
  where
    by : (s ≡ r) ⊎ Contains (program_routines ds) r → (Contains (program_routines ds) r → Split ds (routine r)) → Split (routine s ∷ ds) (routine r)
    by (inl same) rest = record { before = []; after = ds; is = ap (λ z. routine z ∷ ds) same }
    by (inr there) rest = later _ ds (routine r) (rest there)
split-routine (monitor m ∷ ds) r h = later _ ds (routine r) (split-routine ds r h)
split-routine (process q ∷ ds) r h = later _ ds (routine r) (split-routine ds r h)

-- ---- all routines of a program

listed-program : (ds : List (Decl Place)) (r : Routine Place) → Contains (program_routines ds) r → Contains (routines ds) r
listed-program [] r h = h
listed-program (constant name q k ∷ ds) r h = listed-program ds r h
listed-program (device name q is_out ∷ ds) r h = listed-program ds r h
listed-program (event name q ∷ ds) r h = listed-program ds r h
listed-program (routine s ∷ ds) r h = by (front_or_behind s (program_routines ds) r h) (λ there. listed-program ds r there)
  where
    by : (s ≡ r) ⊎ Contains (program_routines ds) r → (Contains (program_routines ds) r → Contains (routines ds) r) → Contains (s ∷ routines ds) r
    by (inl same) rest = subst (Contains (s ∷ routines ds)) same (at_front s (routines ds))
    by (inr there) rest = behind s (routines ds) r (rest there)
listed-program (monitor m ∷ ds) r h = Contains-append_right m.entries (routines ds) r (listed-program ds r h)
listed-program (process q ∷ ds) r h = Contains-append_right q.routines (routines ds) r (listed-program ds r h)

listed-process : (before after : List (Decl Place)) (p : Process Place) (r : Routine Place) → Contains p.routines r → Contains (routines (before ++ process p ∷ after)) r
listed-process [] after p r h = Contains-append_left p.routines (routines after) r h
listed-process (constant name q k ∷ ds) after p r h = listed-process ds after p r h
listed-process (device name q is_out ∷ ds) after p r h = listed-process ds after p r h
listed-process (event name q ∷ ds) after p r h = listed-process ds after p r h
listed-process (routine s ∷ ds) after p r h = behind s (routines (ds ++ process p ∷ after)) r (listed-process ds after p r h)
listed-process (monitor m ∷ ds) after p r h = Contains-append_right m.entries (routines (ds ++ process p ∷ after)) r (listed-process ds after p r h)
listed-process (process q ∷ ds) after p r h = Contains-append_right q.routines (routines (ds ++ process p ∷ after)) r (listed-process ds after p r h)

-- the routine of a name is one of the program's
pub routine_of-listed : (g : Prog Place) (p : Process Place) → Contains g.decls (process p) → (f : Name) (one : Routine Place) → routine_of g p f ≡ Some one → Contains (routines g.decls) one
routine_of-listed g p own f one e = by (routine_of-cases g p f one e)
  where
    by : Contains p.routines one ⊎ Contains (program_routines g.decls) one → Contains (routines g.decls) one
    by (inl inner) = let s = split-listed g.decls (process p) own in subst (λ ds. Contains (routines ds) one) (sym s.is) (listed-process s.before s.after p one inner)
    by (inr outer) = listed-program g.decls one outer

count-decls : (ds : List (Decl Place)) → sum_by routines_in (map plain_decl ds) ≡ length (routines ds)
count-decls [] = refl
count-decls (constant name q k ∷ ds) = let a = sum_by-cons routines_in (plain_decl (constant name q k)) (map plain_decl ds) in let b = count-decls ds in omega arith
count-decls (device name q is_out ∷ ds) = let a = sum_by-cons routines_in (plain_decl (device name q is_out)) (map plain_decl ds) in let b = count-decls ds in omega arith
count-decls (event name q ∷ ds) = let a = sum_by-cons routines_in (plain_decl (event name q)) (map plain_decl ds) in let b = count-decls ds in omega arith
count-decls (routine s ∷ ds) = let a = sum_by-cons routines_in (plain_decl (routine s)) (map plain_decl ds) in let b = count-decls ds in omega arith
count-decls (monitor m ∷ ds) =
    let a = sum_by-cons routines_in (plain_decl (monitor m)) (map plain_decl ds) in
    let b = count-decls ds in
    let c = length-append m.entries (routines ds) in
    let d = length-map m.entries plain_routine in
    omega arith
count-decls (process q ∷ ds) =
    let a = sum_by-cons routines_in (plain_decl (process q)) (map plain_decl ds) in
    let b = count-decls ds in
    let c = length-append q.routines (routines ds) in
    let d = length-map q.routines plain_routine in
    omega arith

pub routine_count-plain : (g : Prog Place) → routine_count (plain g) ≡ length (routines g.decls)
routine_count-plain g = count-decls g.decls

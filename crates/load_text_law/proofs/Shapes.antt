-- The shape of a tree that is that of the load apart from places.
use Rattle.std.proofs.Common.{◌≡◌, ℕ, zero, suc, Bool, true, false, List, [], ◌∷◌, Option, Some, None, codes, map, refl, ap, ◌∙◌}
use Rattle.syntax_tree.specs.declared.place.Place.{Place}
use Rattle.syntax_tree.specs.Placed.{Monitor, Process, Decl, constant, device, event, routine, monitor, process, Prog, optional}
use Rattle.syntax_tree.specs.Bare.{bare_monitor, bare_process, bare_decl, bare}
use Rattle.load.specs.Program.{Nowhere, load_monitor, load_process, drawn, processes_from, load_program}

-- ---- lists

pub record Front {A B : Type 0} (f : A → B) (xs : List A) (y : B) (ys : List B) : Type 0 where
  pub first : A
  pub others : List A
  pub is : xs ≡ first ∷ others
  pub first_like : f first ≡ y
  pub others_like : map f others ≡ ys

pub front_of : {A B : Type 0} (f : A → B) (xs : List A) (y : B) (ys : List B) → map f xs ≡ y ∷ ys → Front f xs y ys
front_of f [] y ys same = cc
front_of f (x ∷ xs) y ys same = record { first = x; others = xs; is = refl; first_like = cc; others_like = cc }

pub none_of : {A B : Type 0} (f : A → B) (xs : List A) → map f xs ≡ [] → xs ≡ []
none_of f [] same = refl
none_of f (x ∷ xs) same = cc

pub record One {A B : Type 0} (f : A → B) (xs : List A) (y : B) : Type 0 where
  pub one : A
  pub is : xs ≡ one ∷ []
  pub like : f one ≡ y

pub one_of : {A B : Type 0} (f : A → B) (xs : List A) (y : B) → map f xs ≡ y ∷ [] → One f xs y
one_of f xs y same =
    let it = front_of f xs y [] same in
    record { one = it.first; is = it.is ∙ ap (λ (r : List _). it.first ∷ r) (none_of f it.others it.others_like); like = it.first_like }

pub none_there : {A B : Type 0} (f : A → B) (x : Option A) → optional f x ≡ None → x ≡ None
none_there f None same = refl
none_there f (Some x) same = cc

pub record There {A B : Type 0} (f : A → B) (x : Option A) (y : B) : Type 0 where
  pub one : A
  pub is : x ≡ Some one
  pub like : f one ≡ y

pub some_there : {A B : Type 0} (f : A → B) (x : Option A) (y : B) → optional f x ≡ Some y → There f x y
some_there f None y same = cc
some_there f (Some x) y same = record { one = x; is = refl; like = cc }

-- ---- declarations

record IsDevice (d : Decl Place) (name : List ℕ) (is_out : Bool) : Type 0 where
  at : Place
  is : d ≡ device name at is_out

is_device : (d : Decl Place) (name : List ℕ) (is_out : Bool) → bare_decl d ≡ device name tt is_out → IsDevice d name is_out
is_device (constant n p c) name is_out same = cc
is_device (device n p o) name is_out same =
    let names : n ≡ name = cc in
    let ways : o ≡ is_out = cc in
    record { at = p; is = λ i. device (names i) p (ways i) }
is_device (event n p) name is_out same = cc
is_device (routine r) name is_out same = cc
is_device (monitor m) name is_out same = cc
is_device (process p) name is_out same = cc

record IsMonitor (d : Decl Place) (m : Monitor Nowhere) : Type 0 where
  one : Monitor Place
  is : d ≡ monitor one
  like : bare_monitor one ≡ m

is_monitor : (d : Decl Place) (m : Monitor Nowhere) → bare_decl d ≡ monitor m → IsMonitor d m
is_monitor (constant n p c) m same = cc
is_monitor (device n p o) m same = cc
is_monitor (event n p) m same = cc
is_monitor (routine r) m same = cc
is_monitor (monitor x) m same = record { one = x; is = refl; like = cc }
is_monitor (process p) m same = cc

record IsProcess (d : Decl Place) (p : Process Nowhere) : Type 0 where
  one : Process Place
  is : d ≡ process one
  like : bare_process one ≡ p

is_process : (d : Decl Place) (p : Process Nowhere) → bare_decl d ≡ process p → IsProcess d p
is_process (constant n q c) p same = cc
is_process (device n q o) p same = cc
is_process (event n q) p same = cc
is_process (routine r) p same = cc
is_process (monitor m) p same = cc
is_process (process x) p same = record { one = x; is = refl; like = cc }

-- processes of the load from one on, apart from places
pub data AreLoad (key count : ℕ) : (before left : ℕ) → List (Process Place) → Type 0 where
  no_more : {before : ℕ} → AreLoad key count before zero []
  one_more : {before left : ℕ} (p : Process Place) (ps : List (Process Place)) → bare_process p ≡ load_process count (suc before) (drawn key before)
      → AreLoad key count (suc before) left ps → AreLoad key count before (suc left) (p ∷ ps)

pub record AreProcesses (key count before left : ℕ) (ds : List (Decl Place)) : Type 0 where
  pub list : List (Process Place)
  pub is : ds ≡ map (λ p. process p) list
  pub are : AreLoad key count before left list

are_processes : (key count before left : ℕ) (ds : List (Decl Place)) → map bare_decl ds ≡ processes_from key count before left → AreProcesses key count before left ds
are_processes key count before zero ds same = record { list = []; is = none_of bare_decl ds same; are = no_more }
are_processes key count before (suc left) ds same =
    let it = front_of bare_decl ds (process (load_process count (suc before) (drawn key before))) (processes_from key count (suc before) left) same in
    let p = is_process it.first (load_process count (suc before) (drawn key before)) it.first_like in
    let more = are_processes key count (suc before) left it.others it.others_like in
    let one = p.is in
    let others = more.is in
    record { list = p.one ∷ more.list; is = it.is ∙ (λ i. one i ∷ others i); are = one_more p.one more.list p.like more.are }

-- the declarations of the load
pub record HasShape (key count : ℕ) (ds : List (Decl Place)) : Type 0 where
  pub source : Place
  pub sink : Place
  pub m : Monitor Place
  pub like : bare_monitor m ≡ load_monitor
  pub list : List (Process Place)
  pub are : AreLoad key count 0 count list
  pub is : ds ≡ device (codes "src") source false ∷ device (codes "dst") sink true ∷ monitor m ∷ map (λ p. process p) list

pub has_shape : (key count : ℕ) (g : Prog Place) → bare g ≡ load_program key count → HasShape key count g.decls
has_shape key count g same =
    let load = load_program key count in
    let all : map bare_decl g.decls ≡ load.decls = ap (λ (h : Prog Nowhere). h.decls) same in
    let one = front_of bare_decl g.decls _ _ all in
    let two = front_of bare_decl one.others _ _ one.others_like in
    let three = front_of bare_decl two.others _ _ two.others_like in
    let source = is_device one.first (codes "src") false one.first_like in
    let sink = is_device two.first (codes "dst") true two.first_like in
    let m = is_monitor three.first load_monitor three.first_like in
    let rest = are_processes key count 0 count three.others three.others_like in
    let a = source.is in
    let b = sink.is in
    let c = m.is in
    let d = rest.is in
    let fourth = one.is in
    let fifth = two.is in
    let sixth = three.is in
    record {
      source = source.at;
      sink = sink.at;
      m = m.one;
      like = m.like;
      list = rest.list;
      are = rest.are;
      is = fourth ∙ ap (λ (ds : List (Decl Place)). one.first ∷ ds) (fifth ∙ ap (λ (ds : List (Decl Place)). two.first ∷ ds) sixth) ∙ (λ i. a i ∷ b i ∷ c i ∷ d i);
    }

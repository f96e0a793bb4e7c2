-- The variable, the condition and the entries of the monitor of the load.
use Rattle.std.proofs.Common.{◌≡◌, List, [], ◌∷◌, codes, refl, ap, ◌∙◌}
use Rattle.syntax_tree.specs.declared.place.Place.{Place}
use Rattle.syntax_tree.specs.Placed.{Var, Routine, Member, variable_member, condition_member, Monitor}
use Rattle.syntax_tree.specs.Bare.{bare_var, bare_routine, bare_member, bare_monitor}
use Rattle.load.specs.Program.{Nowhere, int_variable, add_entry, pause_entry, load_monitor}
use Rattle.load_text_law.proofs.Shapes.{one_of, front_of}
use Rattle.load_law.proofs.LoadTypesTrees.{is_condition}

record IsVariable (m : Member Place) (v : Var Nowhere) : Type 0 where
  one : Var Place
  is : m ≡ variable_member one
  like : bare_var one ≡ v

is_variable : (m : Member Place) (v : Var Nowhere) → bare_member m ≡ variable_member v → IsVariable m v
is_variable (variable_member x) v same = record { one = x; is = refl; like = cc }
is_variable (condition_member n p) v same = cc

pub record HasMembers (m : Monitor Place) : Type 0 where
  pub one : Var Place
  pub at : Place
  pub is : m.members ≡ variable_member one ∷ condition_member (codes "c") at ∷ []
  pub like : bare_var one ≡ int_variable (codes "n")

pub has_members : (m : Monitor Place) → bare_monitor m ≡ load_monitor → HasMembers m
has_members m same =
    let v = int_variable (codes "n") in
    let first = front_of bare_member m.members (variable_member v) (condition_member (codes "c") tt ∷ []) (ap (λ x. x.members) same) in
    let second = one_of bare_member first.others (condition_member (codes "c") tt) first.others_like in
    let a = is_variable first.first v first.first_like in
    let b = is_condition second.one (codes "c") second.like in
    let one = a.is in
    let two = b.is in
    record { one = a.one; at = b.at; is = first.is ∙ ap (λ (r : List (Member Place)). first.first ∷ r) second.is ∙ (λ i. one i ∷ two i ∷ []); like = a.like }

pub record HasEntries (m : Monitor Place) : Type 0 where
  pub add : Routine Place
  pub pause : Routine Place
  pub is : m.entries ≡ add ∷ pause ∷ []
  pub add_like : bare_routine add ≡ add_entry
  pub pause_like : bare_routine pause ≡ pause_entry

pub has_entries : (m : Monitor Place) → bare_monitor m ≡ load_monitor → HasEntries m
has_entries m same =
    let first = front_of bare_routine m.entries add_entry (pause_entry ∷ []) (ap (λ x. x.entries) same) in
    let second = one_of bare_routine first.others pause_entry first.others_like in
    record { add = first.first; pause = second.one; is = first.is ∙ ap (λ (r : List (Routine Place)). first.first ∷ r) second.is; add_like = first.first_like; pause_like = second.like }

-- What an image's bytes come to is one.
use Rattle.std.proofs.Common.{◌≡◌, ◌-◌, ℕ, List, [], length, Option, Some, None, Ok, Err, ap, sym, subst, ◌∙◌}
use Rattle.image.specs.Bytes.{Version}
use Rattle.image.specs.Named.{NamedImage}
use Rattle.image.specs.Raw.{image_of, named_of}
use Rattle.image.specs.declared.raw.RawImage.{RawImage}
use Rattle.image_format.specs.declared.fault.ByteFault.{ByteFault}
use Rattle.image_format.specs.Format.{Read, fault}
use Rattle.image_reader.specs.File.{Parts, image_with, read_file}
use Rattle.image_reader.specs.Answer.{Holds, HasFault, parts_of}
use Rattle.valid_image.specs.Valid.{Shown, fault_of}
use Rattle.valid_image_law.specs.ValidLaw.{ValidIsWithoutFault}
use Rattle.command_due.specs.CommandsDue.{told, image_fault_line, valid_fault_line, IsImageRefused, misread, invalid}
use Rattle.command_due_law.specs.DueOnce.{ImagesHeldAreOne, ImageFilesAreNotRefused, ImageRefusalsAreOne}

-- ---- what reading gives

parts_once : (r : Read (Version × Parts)) (v w : Version) (p q : Parts) → r ≡ Ok ((v, p), []) → r ≡ Ok ((w, q), []) → p ≡ q
parts_once r v w p q one two =
    let same : ◌≡◌ {A = (Version × Parts) × List ℕ} ((v, p), []) ((w, q), []) = cc in
    ap (λ x. x.0.1) same

pub fault_once : (r : Read (Version × Parts)) (m n k l : ℕ) → r ≡ Err (fault m k) → r ≡ Err (fault n l) → (m ≡ n) × (k ≡ l)
fault_once r m n k l one two =
    let same : fault m k ≡ fault n l = cc in
    (ap (λ (f : ByteFault). f.number) same, ap (λ (f : ByteFault). f.left) same)

not_both : (r : Read (Version × Parts)) (v : Version) (p : Parts) (n k : ℕ) → r ≡ Ok ((v, p), []) → r ≡ Err (fault n k) → ⊥
not_both r v p n k one two = absurd (cc)

pub shown_once : (o : Option Shown) (x y : Shown) → o ≡ Some x → o ≡ Some y → x ≡ y
shown_once o x y one two = cc

pub none_shown : (o : Option Shown) (x : Shown) → o ≡ None → o ≡ Some x → ⊥
none_shown o x one two = absurd (cc)

-- ---- what the bytes hold

pub held_once : (bytes : List ℕ) (raw other : RawImage) → Holds bytes raw → Holds bytes other → named_of raw ≡ named_of other
held_once bytes raw other one two =
    one.image
    ∙ (ap image_with (parts_once (read_file bytes) one.version two.version (parts_of raw) (parts_of other) one.is_read two.is_read)
    ∙ sym two.image)

pub held_or_faulty : (bytes : List ℕ) (raw : RawImage) (number offset : ℕ) → Holds bytes raw → HasFault bytes number offset → ⊥
held_or_faulty bytes raw number offset held is = not_both (read_file bytes) held.version (parts_of raw) number is.left held.is_read is.is_read

pub images_held_are_one : ImagesHeldAreOne
images_held_are_one bytes raw other one two = held_once bytes raw other one.held two.held

pub image_files_are_not_refused : ValidIsWithoutFault → ImageFilesAreNotRefused
image_files_are_not_refused without bytes raw outcome file refused = by refused
  where
    by : IsImageRefused bytes outcome → ⊥
    by (misread number offset is was) = held_or_faulty bytes raw number offset file.held is
    by (invalid other f held fails was) =
        none_shown (fault_of (image_of other)) f
        (subst (λ (n : NamedImage). fault_of n.image ≡ None) (held_once bytes raw other file.held held) ((without (image_of raw)).0 file.valid)) fails

pub same_fault : (bytes : List ℕ) (m n o p : ℕ) → HasFault bytes m o → HasFault bytes n p → image_fault_line m o ≡ image_fault_line n p
same_fault bytes m n o p one two =
    let same = fault_once (read_file bytes) m n one.left two.left one.is_read two.is_read in
    let offsets : o ≡ p = one.place ∙ (ap (λ k. length bytes - k) same.1 ∙ sym two.place) in
    ap (λ k. image_fault_line k o) same.0 ∙ ap (λ k. image_fault_line n k) offsets

pub image_refusals_are_one : ImageRefusalsAreOne
image_refusals_are_one bytes outcome other first second = by first second
  where
    by : IsImageRefused bytes outcome → IsImageRefused bytes other → outcome ≡ other
    by (misread m o one is) (misread n p two was) = is ∙ (ap (told 4) (same_fault bytes m n o p one two) ∙ sym was)
    by (misread m o one is) (invalid raw f held fails was) = absurd (held_or_faulty bytes raw m o held one)
    by (invalid raw f held fails is) (misread n p two was) = absurd (held_or_faulty bytes raw n p held two)
    by (invalid raw f held fails is) (invalid raw' f' held' fails' was) =
        let also : fault_of (image_of raw') ≡ Some f = subst (λ (n : NamedImage). fault_of n.image ≡ Some f) (held_once bytes raw raw' held held') fails in
        is ∙ (ap (λ (x : Shown). told 4 (valid_fault_line x)) (shown_once (fault_of (image_of raw')) f f' also fails') ∙ sym was)

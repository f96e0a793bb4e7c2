-- The laws of the images that files hold.
use Rattle.std.specs.Prelude.{◌≡◌, ◌≤◌, ◌<◌, ◌++◌, ◌↔◌, ℕ, true, List, [], Ok, length, take}
use Rattle.image.specs.Bytes.{Version, bytes_of}
use Rattle.machine_semantics.specs.Trees.{Segs}
use Rattle.image_format.specs.TreeBytes.{tree_bytes}
use Rattle.image_reader.specs.Answer.{HasFault}
use Rattle.image_reader.specs.File.{Parts, image_format, image_with, longest, read_file}
use Rattle.image_format.specs.FormatLaw.{AreBytes}
use Rattle.image_format.specs.TreeFormat.{in_image, tree_format}

-- what is read of a file is what is written: its bytes are those of the image, in its version
abbrev pub ImagesReadAreWritten : Type 0
ImagesReadAreWritten =
    (bytes : List ℕ) (version : Version) (parts : Parts) → AreBytes bytes
    → read_file bytes ≡ Ok ((version, parts), []) → bytes ≡ bytes_of version (image_with parts)

-- what is written of an image is read, where each of its fields is in its range and it is no longer
-- than an image may be
abbrev pub ImagesWrittenAreRead : Type 0
ImagesWrittenAreRead =
    (version : Version) (parts : Parts) → image_format.is (version, parts) ≡ true
    → length (bytes_of version (image_with parts)) ≤ longest
    → read_file (bytes_of version (image_with parts)) ≡ Ok ((version, parts), [])

-- a file that is cut ends inside a field: it holds no image, and its fault is I2 at its end
abbrev pub CutImagesEndInsideAField : Type 0
CutImagesEndInsideAField =
    (bytes : List ℕ) (version : Version) (parts : Parts) (k : ℕ) → AreBytes bytes
    → read_file bytes ≡ Ok ((version, parts), []) → k < length bytes → HasFault (take k bytes) 2 k

-- the bytes begin with those of the tree, and these bytes are left; its numbers are in the ranges
-- of their fields, and it nests at most so deep
pub record BeginsWith (monitors depth : ℕ) (bytes : List ℕ) (tree : Segs) (rest : List ℕ) : Type 0 where
  pub are : bytes ≡ tree_bytes tree ++ rest
  pub in_range : (tree_format (in_image monitors) depth).is tree ≡ true

-- bytes are read as a tree exactly where they begin with its bytes
abbrev pub TreesReadAreWritten : Type 0
TreesReadAreWritten = (monitors depth : ℕ) (bytes : List ℕ) (tree : Segs) (rest : List ℕ) → AreBytes bytes → ((tree_format (in_image monitors) depth).read bytes ≡ Ok (tree, rest)) ↔ BeginsWith monitors depth bytes tree rest

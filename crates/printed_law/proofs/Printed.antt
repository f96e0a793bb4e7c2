-- The canonical text of a program is that of the same program.
use Rattle.std.proofs.Common.{◌≡◌, ◌≤◌, ◌∙◌, ℕ, List, length, sym, ap}
use Rattle.syntax.specs.declared.token.Token.{Token}
use Rattle.syntax.specs.Tokens.{longest_text, tokens}
use Rattle.syntax_tree.specs.declared.place.Place.{Place}
use Rattle.syntax_tree.specs.Placed.{Prog, plain}
use Rattle.syntax_tree.specs.Bare.{bare}
use Rattle.syntax_printer.specs.Canonical.{canonical}
use Rattle.syntax_printer.specs.ReadBack.{AreSpelled, HasTree, IsPrinted}
use Rattle.static_names.specs.Resolved.{IsRead}
use Rattle.printed_law.specs.AlikeLaws.{TreesAreCheckedAlike}
use Rattle.load_text_law.proofs.Plain.{plain-bare}
use Rattle.built_image_law.specs.Limits.{StacksAreInLimits}
use Rattle.command_due.specs.Source.{IsWritten, IsWrittenAgain}
use Rattle.printed_law.specs.Printed.{PrintedTreesAreWritten}
use Rattle.printed_law.proofs.Sizes.{sizes_kept}

-- the laws of the canonical text, and of two trees that are the same apart from places
pub record Printing : Type 0 where
  pub spelled : (text : List ℕ) (toks : List Token) → tokens text toks → AreSpelled text toks
  pub tokens_of : (g : Prog Place) → IsPrinted g → (toks : List Token) × tokens (canonical (bare g)) toks
  pub tree_of : (g : Prog Place) → IsPrinted g → (toks : List Token) → tokens (canonical (bare g)) toks → HasTree (canonical (bare g)) toks g
  pub checked : TreesAreCheckedAlike
  pub stacks : StacksAreInLimits

pub same_plain : (g h : Prog Place) → bare g ≡ bare h → plain g ≡ plain h
same_plain g h same = sym (plain-bare g) ∙ (ap plain same ∙ plain-bare h)

-- another text of the tree, apart from places, is one of the program
rewritten : Printing → (other : List ℕ) (g : Prog Place) (text : List ℕ) → IsWritten text g → (toks : List Token) → tokens other toks → (back : HasTree other toks g) → IsWritten other back.h
rewritten laws other g text written toks listed back =
    let read : IsRead back.h = record { text = other; toks = toks; listed = listed; reads = back.reads } in
    record {
      program = record {
        tree = record { toks = toks; listed = listed; grown = back.reads };
        checked = laws.checked g back.h written.program.checked.read read (sym back.same) written.program.checked;
      };
      fits = sizes_kept laws.stacks g back.h (same_plain back.h g back.same) written.fits;
    }

pub written_again : Printing → PrintedTreesAreWritten
written_again laws text g written short =
    let tree = written.program.tree in
    let printed_is : IsPrinted g = record { text = text; toks = tree.toks; spelled = laws.spelled text tree.toks tree.listed; reads = tree.grown; short = short } in
    let found = laws.tokens_of g printed_is in
    let back : HasTree (canonical (bare g)) found.0 g = laws.tree_of g printed_is found.0 found.1 in
    record { tree = back.h; written = rewritten laws (canonical (bare g)) g text written found.0 found.1 back; same = back.same }

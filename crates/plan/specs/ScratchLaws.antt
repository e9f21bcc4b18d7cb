-- Laws of the film's own lead list, which a scratch stands for.
-- Assumes nothing.
use Rattle.std.specs.Prelude.{ℕ, ◌≤◌, ◌<◌, ◌≡◌, List, length}
use Rattle.std.proofs.Common.{lt-ltb, le-ltb}
use Rattle.std.proofs.Math.Bool.{true, false}
use Rattle.numbers.specs.Limits.{scratch_length}
use Rattle.words.specs.Words.{words_of}
use Rattle.card.specs.declared.Figures.{Figures}
use Rattle.placement.specs.Showing.{Showing}
use Rattle.plan.specs.Scratch.{scratch_short, scratch_leads}

-- a scratch by its length
pub scratch_short_law : (s : List ℕ) → length (words_of s) < scratch_length → scratch_short s ≡ true
unfolding scratch_short
scratch_short_law s h = lt-ltb (length (words_of s)) scratch_length h

pub scratch_long : (s : List ℕ) → scratch_length ≤ length (words_of s) → scratch_short s ≡ false
unfolding scratch_short
scratch_long s h = le-ltb (length (words_of s)) scratch_length h

-- the list in whose place it stands has all entries, or none
pub short_leads_none : (x : Showing) (f : Figures) (s : List ℕ) → scratch_short s ≡ true → length (words_of (scratch_leads x f s)) ≡ 0
unfolding scratch_leads words_of
short_leads_none x f s e = rw e

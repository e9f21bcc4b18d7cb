-- What a lent list of entries holds after a begin.
-- Assumes nothing.
use Rattle.std.specs.Prelude.{ℕ, ◌≡◌, List, length}
use Rattle.std.proofs.Common.{ap}
use Rattle.desk.specs.declared.Desk.{Desk}
use Rattle.desk.specs.declared.Begun.{Begun}
use Rattle.desk.specs.declared.Fetch.{Fetch}
use Rattle.rules.specs.Scheduler.{Entry, begin}
use Rattle.desk.specs.Desk.{fetches_of, begin_desk}
use Rattle.admission.specs.Refused.{refused_same}
use Rattle.fetch_list.specs.Fetches.{written}

-- `handed back as a lent list of entries`: the list has room for as many entries as it is long
unfoldable pub list_after : Desk → List ℕ → List ℕ → List Fetch → List Fetch
list_after d ps ls out =
    let f = (begin_desk d ps ls (length out)).fetches in
    written f f.count out

-- the fetches of an answer, written
pub list_after_law : (d : Desk) (ps ls : List ℕ) (out : List Fetch) (b : Begun) → b ≡ begin_desk d ps ls (length out)
    → written b.fetches b.fetches.count out ≡ list_after d ps ls out
unfolding list_after
list_after_law d ps ls out b e = ap (λ (x : Begun). written x.fetches x.fetches.count out) e

-- a refused begin leaves the list
pub list_kept : (d : Desk) (ps ls : List ℕ) (out : List Fetch) → ((begin_desk d ps ls (length out)).verdict.number ≡ 0 → ⊥) → list_after d ps ls out ≡ out
unfolding list_after begin_desk fetches_of written
list_kept d ps ls out n = ap (λ (es : List Entry). written (fetches_of es) (length es) out) (refused_same d ps ls (length out) begin n).1

-- `written` a store at a time.
use mathlib.Core.Path.{◌≡◌, refl, ap}
use Prim.Native.Nat.{ℕ, suc}
use mathlib.Core.List.{List}
use lib.ListN.{set}
use Rattle.desk.specs.declared.Fetches.{Fetches}
use Rattle.desk.specs.declared.Fetch.{Fetch}
use Rattle.fetch_list.specs.Fetches.{entry_of, written}

pub written_none : (f : Fetches) (l : List Fetch) → l ≡ written f 0 l
unfolding written
written_none f l = refl

pub written_more : (f : Fetches) (n : ℕ) (l : List Fetch) (e : Fetch) → e ≡ entry_of f n → set (written f n l) n e ≡ written f (suc n) l
unfolding written
written_more f n l e p = ap (set (written f n l) n) p

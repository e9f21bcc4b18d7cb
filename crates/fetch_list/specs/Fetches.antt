-- What a lent list of entries holds once the fetches of a sweep have been written to it, and the laws of that.
use Rattle.std.specs.Prelude.{◌≡◌, refl, ℕ, zero, suc, ◌≤◌, ◌<◌, List, get_or, set, length}
use Rattle.std.proofs.Common.{◌∙◌, sym, subst, arith, length-set, get_or-set_same, get_or-set_other}
use Rattle.std.proofs.Math.Decide.{ℕ_discrete}
use Rattle.std.proofs.Math.Logic.{by_cases}
use Rattle.desk.specs.declared.Fetches.{Fetches}
use Rattle.desk.specs.declared.Fetch.{Fetch}

-- `entries, each with position, slot and block`: the entry i
abbrev pub entry_of : Fetches → ℕ → Fetch
entry_of f i = record { position = get_or f.positions i 0; slot = get_or f.slots i 0; block = get_or f.blocks i 0 }

-- `handed back as a lent list of entries`: the first n entries of the list l are those of the fetches, the others keep their contents
unfoldable pub written : Fetches → ℕ → List Fetch → List Fetch
written f zero l = l
written f (suc n) l = set (written f n l) n (entry_of f n)

-- the list stays as long as it was lent
pub length_written : (f : Fetches) (n : ℕ) (l : List Fetch) → length (written f n l) ≡ length l
unfolding written
length_written f zero l = refl
length_written f (suc n) l = length-set (written f n l) n (entry_of f n) ∙ length_written f n l

-- an entry below n is that of the fetches
pub written_below : (f : Fetches) (n : ℕ) (l : List Fetch) (j : ℕ) (d : Fetch) → j < n → n ≤ length l → get_or (written f n l) j d ≡ entry_of f j
unfolding written
written_below f zero l j d h r = absurd (omega arith)
written_below f (suc n) l j d h r =
    by_cases (ℕ_discrete n j)
    (λ e. subst (λ (k : ℕ). get_or (set (written f n l) n (entry_of f n)) k d ≡ entry_of f k) e
    (get_or-set_same (written f n l) n (entry_of f n) d (omega (arith, length_written f n l))))
    (λ e. get_or-set_other (written f n l) n j (entry_of f n) d (λ q. e (sym q)) ∙ written_below f n l j d (omega arith) (omega arith))

-- an entry from n on is as it was
pub written_past : (f : Fetches) (n : ℕ) (l : List Fetch) (j : ℕ) (d : Fetch) → n ≤ j → get_or (written f n l) j d ≡ get_or l j d
unfolding written
written_past f zero l j d h = refl
written_past f (suc n) l j d h = get_or-set_other (written f n l) n j (entry_of f n) d (omega arith) ∙ written_past f n l j d (omega arith)

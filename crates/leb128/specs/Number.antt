-- One number of a card: how it is written (K1), and how it is read (K2, R1, R2, R24).
use Rattle.std.specs.Prelude.{ℕ, zero, suc, ◌+◌, ◌-◌, ◌*◌, ◌/◌, ◌%◌, ◌<◌, List, [], ◌∷◌, cond, ◌&&◌, length, get_or, take, drop, leb, ltb, eqb}
use Rattle.numbers.specs.Limits.{no_number}
use Rattle.leb128.specs.declared.Number.{Number}
use Rattle.leb128.specs.declared.Number.TheVariants.{Value, CutOff, Malformed}

-- every element is a byte
abbrev pub Bytes : List ℕ → Type 0
Bytes s = (i : ℕ) → get_or s i 0 < 256

-- a group has seven bits; a byte of 128 or more is followed by another of its number
abbrev pub group_weight : ℕ
group_weight = 128

-- the most bytes of a number
abbrev pub most_groups : ℕ
most_groups = 5

-- the groups of a number, with at most k before the last
unfoldable pub groups_from : ℕ → ℕ → List ℕ
groups_from zero v = v ∷ []
groups_from (suc k) v = cond (ltb v group_weight) (v ∷ []) ((v % group_weight + group_weight) ∷ groups_from k (v / group_weight))

-- the bytes of a number in its shortest form; five suffice for a number of 32 bits
unfoldable pub groups : ℕ → List ℕ
groups v = groups_from 4 v

-- how many of the first k bytes have their top bit set before one that has not
unfoldable pub continuing : ℕ → List ℕ → ℕ
continuing zero bs = 0
continuing (suc k) [] = 0
continuing (suc k) (b ∷ bs) = cond (ltb b group_weight) 0 (suc (continuing k bs))

-- the number that groups make, lowest first
unfoldable pub joined : List ℕ → ℕ
joined [] = 0
joined (b ∷ bs) = b % group_weight + group_weight * joined bs

-- the value and what ends it: a last group of zero after others is not the shortest form, and 32 bits are the most
unfoldable pub judged : ℕ → ℕ → ℕ → ℕ → Number
judged start k last v =
    cond (ltb 0 k && eqb last 0) (Malformed start)
    (cond (ltb v no_number) (Value v (start + k + 1)) (Malformed start))

-- the number whose bytes are bs and what follows, of which k continue; `size` is the length of all the bytes
unfoldable pub number_in : ℕ → ℕ → List ℕ → ℕ → Number
number_in size start bs k =
    cond (leb most_groups k) (Malformed start)
    (cond (leb (length bs) k) (CutOff size)
    (judged start k (get_or bs k 0) (joined (take (suc k) bs))))

-- the number at an offset (R24): five bytes that all continue are malformed; fewer, cut off, end too early
unfoldable pub number_at : List ℕ → ℕ → Number
number_at s start = number_in (length s) start (drop start s) (continuing most_groups (drop start s))

-- ---- the quick form of the code

-- at most left more groups, from at on; the groups before add up to sum, and the next has the weight w
unfoldable pub scan : ℕ → List ℕ → ℕ → ℕ → ℕ → ℕ → Number
scan zero s start at sum w = Malformed start
scan (suc left) s start at sum w =
    cond (ltb at (length s))
    (cond (ltb (get_or s at 0) group_weight)
    (judged start (at - start) (get_or s at 0) (sum + get_or s at 0 * w))
    (scan left s start (at + 1) (sum + get_or s at 0 % group_weight * w) (w * group_weight)))
    (CutOff (length s))

-- Laws of entries in byte strings: what an entry is, what a store changes and keeps, and that reading and writing undo each other.
-- Assumes nothing.
use Rattle.std.specs.Prelude.{ℕ, zero, suc, ◌+◌, ◌*◌, ◌-◌, ◌/◌, ◌%◌, ◌≤◌, ◌<◌, ◌≡◌, refl, ◌≢◌, List, [], ◌∷◌, ◌++◌, length, get_or, set, take, drop}
use Rattle.std.proofs.Common.{sym, ap, ◌∙◌, append_assoc, append-nil, arith, add-one, Fits, length-set, length-drop, drop_of_length-le, take_all, get_or-set_other, drop-set-lt, drop-cons, drop_at, length-take-le}
use Rattle.std.proofs.Math.Logic.{by_cases}
use Rattle.std.proofs.Math.Nat.{div-div-eq-div-mul}
use Rattle.std.proofs.Math.Decide.{dec_lt}
use Rattle.std.proofs.Math.Numerals.{add-two, add-three}
use Rattle.std.specs.Int.{w8}
use Rattle.std.proofs.lemmas.List.{length-replicate}
use Rattle.std.proofs.Math.Seq.{take-append_seam}
use Rattle.std.proofs.lemmas.List.Edits.{sets, sets-eq}
use Rattle.laws.specs.Each.{zero_at}
use Rattle.laws.specs.Overwrite.{overwrite, overwrite_none, overwrite_more}
use Rattle.words.specs.Words.{Bytes, Words, words_of, with_word, with_words, zero_words, bytes_of}

-- ---- ranges, from what the checker knows of a slice or an array

pub bytes_fit : (s : List ℕ) → ((i : ℕ) → Fits w8 (get_or s i 0)) → Bytes s
bytes_fit s f i = (f i).fits

-- ---- four bytes and a number

-- the number that four bytes make
abbrev joined : ℕ → ℕ → ℕ → ℕ → ℕ
joined a b c d = a + 256 * b + 65536 * c + 16777216 * d

-- its bytes are those four
split : (a b c d : ℕ) → a < 256 → b < 256 → c < 256 → d < 256
    → (joined a b c d % 256 ≡ a) × (joined a b c d / 256 % 256 ≡ b) × (joined a b c d / 65536 % 256 ≡ c) × (joined a b c d / 16777216 % 256 ≡ d)
split a b c d p q r t = omega arith

-- the four bytes of a number make its low 32 bits
low : (v : ℕ) → joined (v % 256) (v / 256 % 256) (v / 65536 % 256) (v / 16777216 % 256) ≡ v % 4294967296
low v =
    let p : v / 256 % 256 + 256 * (v / 65536) ≡ v / 256 = omega (arith, div-div-eq-div-mul v 256 256) in
    let q : v / 65536 % 256 + 256 * (v / 16777216) ≡ v / 65536 = omega (arith, div-div-eq-div-mul v 65536 256) in
    let r : v / 16777216 % 256 + 256 * (v / 4294967296) ≡ v / 16777216 = omega (arith, div-div-eq-div-mul v 16777216 256) in
    omega arith

whole : (v : ℕ) → v < 4294967296 → v % 4294967296 ≡ v
whole v h = omega arith

-- the offsets of the next entry
next_first : (i : ℕ) → 4 * suc i ≡ suc (suc (suc (suc (4 * i))))
next_first i = omega arith

next : (i k : ℕ) → 4 * suc i + k ≡ suc (suc (suc (suc (4 * i + k))))
next i k = omega arith

-- ---- the entries of a string

-- whole entries count
pub words_length : (s : List ℕ) → length (words_of s) ≡ length s / 4
unfolding words_of
words_length [] = refl
words_length (a ∷ []) = refl
words_length (a ∷ (b ∷ [])) = refl
words_length (a ∷ (b ∷ (c ∷ []))) = refl
words_length (a ∷ (b ∷ (c ∷ (d ∷ s)))) = omega (arith, words_length s)

-- the four bytes of an entry
pub word_bytes : (s : List ℕ) (i : ℕ) → i < length s / 4
    → get_or (words_of s) i 0 ≡ get_or s (4 * i) 0 + 256 * get_or s (4 * i + 1) 0 + 65536 * get_or s (4 * i + 2) 0 + 16777216 * get_or s (4 * i + 3) 0
unfolding words_of
word_bytes [] i h = absurd (omega arith)
word_bytes (a ∷ []) i h = absurd (omega arith)
word_bytes (a ∷ (b ∷ [])) i h = absurd (omega arith)
word_bytes (a ∷ (b ∷ (c ∷ []))) i h = absurd (omega arith)
word_bytes (a ∷ (b ∷ (c ∷ (d ∷ s)))) zero h = refl
word_bytes (a ∷ (b ∷ (c ∷ (d ∷ s)))) (suc i) h = rw (next i 1, next i 2, next i 3, next_first i) (word_bytes s i (omega arith))

-- ---- one entry stored

pub with_word_length : (s : List ℕ) (i v : ℕ) → length (with_word s i v) ≡ length s
unfolding with_word
with_word_length s i v = simp length-set

-- a store makes no entry and takes none away
pub with_word_entries : (s : List ℕ) (i v : ℕ) → length (words_of (with_word s i v)) ≡ length (words_of s)
with_word_entries s i v = omega (arith, words_length s, words_length (with_word s i v), with_word_length s i v)

-- past the first entry
with_word_next : (a b c d : ℕ) (s : List ℕ) (i v : ℕ) → with_word (a ∷ (b ∷ (c ∷ (d ∷ s)))) (suc i) v ≡ a ∷ (b ∷ (c ∷ (d ∷ with_word s i v)))
unfolding with_word
with_word_next a b c d s i v = rw (next i 1, next i 2, next i 3, next_first i)

-- fewer than four bytes are no entry
short : (s : List ℕ) → length s < 4 → words_of s ≡ []
unfolding words_of
short [] h = refl
short (a ∷ []) h = refl
short (a ∷ (b ∷ [])) h = refl
short (a ∷ (b ∷ (c ∷ []))) h = refl
short (a ∷ (b ∷ (c ∷ (d ∷ s)))) h = absurd (omega arith)

-- the entries after a store of any number: its low 32 bits
words_stored : (s : List ℕ) (i v : ℕ) → words_of (with_word s i v) ≡ set (words_of s) i (v % 4294967296)
unfolding words_of with_word
words_stored [] i v = refl
words_stored (a ∷ []) i v = short (with_word (a ∷ []) i v) (omega (arith, with_word_length (a ∷ []) i v))
words_stored (a ∷ (b ∷ [])) i v = short (with_word (a ∷ (b ∷ [])) i v) (omega (arith, with_word_length (a ∷ (b ∷ [])) i v))
words_stored (a ∷ (b ∷ (c ∷ []))) i v = short (with_word (a ∷ (b ∷ (c ∷ []))) i v) (omega (arith, with_word_length (a ∷ (b ∷ (c ∷ []))) i v))
words_stored (a ∷ (b ∷ (c ∷ (d ∷ s)))) zero v = ap (λ (w : ℕ). w ∷ words_of s) (low v)
words_stored (a ∷ (b ∷ (c ∷ (d ∷ s)))) (suc i) v =
    ap words_of (with_word_next a b c d s i v) ∙ ap (λ (ws : List ℕ). joined a b c d ∷ ws) (words_stored s i v)

-- the entries after a store
pub words_with_word : (s : List ℕ) (i v : ℕ) → v < 4294967296 → words_of (with_word s i v) ≡ set (words_of s) i v
words_with_word s i v h = words_stored s i v ∙ ap (set (words_of s) i) (whole v h)

set_bytes : (s : List ℕ) (i b : ℕ) → Bytes s → b < 256 → Bytes (set s i b)
set_bytes [] i b y h j = omega arith
set_bytes (a ∷ s) zero b y h zero = h
set_bytes (a ∷ s) zero b y h (suc j) = y (suc j)
set_bytes (a ∷ s) (suc i) b y h zero = y 0
set_bytes (a ∷ s) (suc i) b y h (suc j) = set_bytes s i b (λ k. y (suc k)) h j

-- bytes stay bytes
pub with_word_bytes : (s : List ℕ) (i v : ℕ) → Bytes s → Bytes (with_word s i v)
unfolding with_word
with_word_bytes s i v y =
    let first : List ℕ = set s (4 * i) (v % 256) in
    let second : List ℕ = set first (4 * i + 1) (v / 256 % 256) in
    let third : List ℕ = set second (4 * i + 2) (v / 65536 % 256) in
    let p : Bytes first = set_bytes s (4 * i) (v % 256) y (omega arith) in
    let q : Bytes second = set_bytes first (4 * i + 1) (v / 256 % 256) p (omega arith) in
    let r : Bytes third = set_bytes second (4 * i + 2) (v / 65536 % 256) q (omega arith) in
    set_bytes third (4 * i + 3) (v / 16777216 % 256) r (omega arith)

-- an entry stored where it was read changes nothing
pub with_word_same : (s : List ℕ) (i : ℕ) → Bytes s → i < length (words_of s) → with_word s i (get_or (words_of s) i 0) ≡ s
unfolding words_of with_word
with_word_same [] i y h = absurd (omega arith)
with_word_same (a ∷ []) i y h = absurd (omega arith)
with_word_same (a ∷ (b ∷ [])) i y h = absurd (omega arith)
with_word_same (a ∷ (b ∷ (c ∷ []))) i y h = absurd (omega arith)
with_word_same (a ∷ (b ∷ (c ∷ (d ∷ s)))) zero y h =
    let e = split a b c d (y 0) (y 1) (y 2) (y 3) in rw (e.0, e.1, e.2, e.3)
with_word_same (a ∷ (b ∷ (c ∷ (d ∷ s)))) (suc i) y h =
    with_word_next a b c d s i _ ∙ ap (λ (t : List ℕ). a ∷ (b ∷ (c ∷ (d ∷ t)))) (with_word_same s i (λ j. y (suc (suc (suc (suc j))))) (omega arith))

-- ---- several entries stored

pub with_words_none : (s : List ℕ) (start : ℕ) → with_words s start [] ≡ s
unfolding with_words
with_words_none s start = refl

pub with_words_cons : (s : List ℕ) (start v : ℕ) (vs : List ℕ) → with_words s start (v ∷ vs) ≡ with_words (with_word s start v) (start + 1) vs
unfolding with_words
with_words_cons s start v vs = refl

-- one piece after the other is both at once
pub with_words_append : (s : List ℕ) (start : ℕ) (vs ws : List ℕ) → with_words s start (vs ++ ws) ≡ with_words (with_words s start vs) (start + length vs) ws
unfolding with_words
with_words_append s start [] ws = let e : start + 0 ≡ start = omega arith in rw e
with_words_append s start (v ∷ vs) ws =
    let e : start + 1 + length vs ≡ start + suc (length vs) = omega arith in
    with_words_append (with_word s start v) (start + 1) vs ws ∙ rw e

-- one turn of a loop that stores entry by entry
pub with_words_turn : (s : List ℕ) (start : ℕ) (vs : List ℕ) (k : ℕ) → k < length vs
    → with_words s start (take (suc k) vs) ≡ with_word (with_words s start (take k vs)) (start + k) (get_or vs k 0)
unfolding with_words
with_words_turn s start [] k h = absurd (omega arith)
with_words_turn s start (v ∷ vs) zero h = let e : start + 0 ≡ start = omega arith in rw e
with_words_turn s start (v ∷ vs) (suc k) h =
    let e : start + 1 + k ≡ start + suc k = omega arith in
    with_words_turn (with_word s start v) (start + 1) vs k (omega arith) ∙ rw e

-- the same in the code's words
pub with_words_more : (s : List ℕ) (start : ℕ) (vs : List ℕ) (k : ℕ) → k < length vs
    → with_word (with_words s start (take k vs)) (start + k) (get_or vs k 0) ≡ with_words s start (take (k + 1) vs)
with_words_more s start vs k h = rw add-one (sym (with_words_turn s start vs k h))

pub with_words_length : (s : List ℕ) (start : ℕ) (vs : List ℕ) → length (with_words s start vs) ≡ length s
unfolding with_words
with_words_length s start [] = refl
with_words_length s start (v ∷ vs) = with_words_length (with_word s start v) (start + 1) vs ∙ with_word_length s start v

pub with_words_entries : (s : List ℕ) (start : ℕ) (vs : List ℕ) → length (words_of (with_words s start vs)) ≡ length (words_of s)
with_words_entries s start vs = omega (arith, words_length s, words_length (with_words s start vs), with_words_length s start vs)

pub with_words_bytes : (s : List ℕ) (start : ℕ) (vs : List ℕ) → Bytes s → Bytes (with_words s start vs)
unfolding with_words
with_words_bytes s start [] y = y
with_words_bytes s start (v ∷ vs) y = with_words_bytes (with_word s start v) (start + 1) vs (with_word_bytes s start v y)

-- ---- the part of a string from an entry on

-- its entries are those from there on
pub words_part : (k : ℕ) (s : List ℕ) → words_of (drop (4 * k) s) ≡ drop k (words_of s)
unfolding words_of
words_part zero s = refl
words_part (suc k) [] = rw (next_first k)
words_part (suc k) (a ∷ []) = rw (next_first k)
words_part (suc k) (a ∷ (b ∷ [])) = rw (next_first k)
words_part (suc k) (a ∷ (b ∷ (c ∷ []))) = rw (next_first k)
words_part (suc k) (a ∷ (b ∷ (c ∷ (d ∷ s)))) = rw (next_first k) (words_part k s)

with_words_next : (a b c d : ℕ) (s : List ℕ) (start : ℕ) (vs : List ℕ)
    → with_words (a ∷ (b ∷ (c ∷ (d ∷ s)))) (suc start) vs ≡ a ∷ (b ∷ (c ∷ (d ∷ with_words s start vs)))
unfolding with_words
with_words_next a b c d s start [] = refl
with_words_next a b c d s start (v ∷ vs) =
    let e : suc start + 1 ≡ suc (start + 1) = omega arith in
    rw (with_word_next a b c d s start v, e) (with_words_next a b c d (with_word s start v) (start + 1) vs)

-- entries stored in it are stored in the string
pub with_words_part : (k : ℕ) (s : List ℕ) (start : ℕ) (vs : List ℕ) → 4 * k ≤ length s
    → take (4 * k) s ++ with_words (drop (4 * k) s) start vs ≡ with_words s (k + start) vs
with_words_part zero s start vs h = let e : 0 + start ≡ start = omega arith in rw e
with_words_part (suc k) [] start vs h = absurd (omega arith)
with_words_part (suc k) (a ∷ []) start vs h = absurd (omega arith)
with_words_part (suc k) (a ∷ (b ∷ [])) start vs h = absurd (omega arith)
with_words_part (suc k) (a ∷ (b ∷ (c ∷ []))) start vs h = absurd (omega arith)
with_words_part (suc k) (a ∷ (b ∷ (c ∷ (d ∷ s)))) start vs h =
    let e : suc k + start ≡ suc (k + start) = omega arith in
    rw (next_first k, e, with_words_next a b c d s (k + start) vs)
    (ap (λ (t : List ℕ). a ∷ (b ∷ (c ∷ (d ∷ t)))) (with_words_part k s start vs (omega arith)))

-- the same of the part as code lends it, from byte `at` on to the end
part_all : (s : List ℕ) (at : ℕ) → take (length s - at) (drop at s) ≡ drop at s
part_all s at = take_all (length s - at) (drop at s) (omega (arith, length-drop at s))

pub words_lent : (k : ℕ) (s : List ℕ) (at : ℕ) → at ≡ 4 * k → words_of (take (length s - at) (drop at s)) ≡ drop k (words_of s)
words_lent k s at e = ap words_of (part_all s at) ∙ ap (λ (a : ℕ). words_of (drop a s)) e ∙ words_part k s

pub words_returned : (k : ℕ) (s : List ℕ) (at : ℕ) (vs ys : List ℕ) → at ≡ 4 * k → 4 * k ≤ length s
    → ys ≡ with_words (take (length s - at) (drop at s)) 0 vs → take at s ++ (ys ++ drop (length s - at) (drop at s)) ≡ with_words s k vs
words_returned k s at vs ys e h q =
    let none : drop (length s - at) (drop at s) ≡ [] = drop_of_length-le (drop at s) {i = length s - at} (omega (arith, length-drop at s)) in
    let z : k + 0 ≡ k = omega arith in
    rw (none, append-nil ys, q, part_all s at, e) (with_words_part k s 0 vs h ∙ ap (λ (j : ℕ). with_words s j vs) z)

-- ---- zeros

pub zero_words_length : (n : ℕ) → length (zero_words n) ≡ n
unfolding zero_words
zero_words_length n = length-replicate {A = ℕ} n 0

pub zero_words_at : (n i : ℕ) → get_or (zero_words n) i 0 ≡ 0
unfolding zero_words
zero_words_at n i = zero_at n i

-- ---- what stays

-- a byte of another entry, or a spare one, stays
with_word_other : (s : List ℕ) (i v j : ℕ) → j / 4 ≢ i → get_or (with_word s i v) j 0 ≡ get_or s j 0
unfolding with_word
with_word_other s i v j n =
    let p : j ≢ 4 * i = omega arith in
    let q : j ≢ 4 * i + 1 = omega arith in
    let r : j ≢ 4 * i + 2 = omega arith in
    let t : j ≢ 4 * i + 3 = omega arith in
    simp get_or-set_other

-- a byte after the entries stays
pub with_words_after : (s : List ℕ) (start : ℕ) (vs : List ℕ) (j : ℕ) → 4 * (start + length vs) ≤ j → get_or (with_words s start vs) j 0 ≡ get_or s j 0
unfolding with_words
with_words_after s start [] j h = refl
with_words_after s start (v ∷ vs) j h =
    with_words_after (with_word s start v) (start + 1) vs j (omega arith) ∙ with_word_other s start v j (omega arith)

-- the entries after the stores, element by element
words_sets : (s : List ℕ) (start : ℕ) (vs : List ℕ) → Words vs → words_of (with_words s start vs) ≡ sets (words_of s) start vs
unfolding with_words
words_sets s start [] y = refl
words_sets s start (v ∷ vs) y =
    rw (add-one, words_sets (with_word s start v) (suc start) vs (λ i. y (suc i)), words_with_word s start v (y 0))

-- the entries after the stores
pub words_with_words : (s : List ℕ) (start : ℕ) (vs : List ℕ) → Words vs → start + length vs ≤ length (words_of s)
    → words_of (with_words s start vs) ≡ overwrite (words_of s) start vs
unfolding overwrite
words_with_words s start vs y h = words_sets s start vs y ∙ sets-eq vs (words_of s) start h ∙ append_assoc (take start (words_of s)) vs _

-- ---- reading and writing

-- WHAT IS WRITTEN IS READ BACK
pub read_written : (s : List ℕ) (start : ℕ) (vs : List ℕ) → Words vs → start + length vs ≤ length (words_of s)
    → take (length vs) (drop start (words_of (with_words s start vs))) ≡ vs
unfolding overwrite
read_written s start vs y h =
    rw (words_with_words s start vs y h, drop_at (take start (words_of s)) _ start (length-take-le start (words_of s) (omega arith)))
    (take-append_seam vs _)

-- a part behind what is written is read as it was
pub read_after : (s : List ℕ) (start : ℕ) (vs : List ℕ) (i : ℕ) → start + length vs ≤ i → drop i (words_of (with_words s start vs)) ≡ drop i (words_of s)
unfolding with_words
read_after s start [] i h = refl
read_after s start (v ∷ vs) i h =
    read_after (with_word s start v) (start + 1) vs i (omega arith)
    ∙ rw (words_stored s start v) (drop-set-lt i (words_of s) start (v % 4294967296) (omega arith))

-- WHAT WAS READ IS WRITTEN BACK
pub written_read : (s : List ℕ) (start n : ℕ) → Bytes s → with_words s start (take n (drop start (words_of s))) ≡ s
written_read s start zero y = with_words_none s start
written_read s start (suc n) y = by_cases (dec_lt start (length (words_of s))) (inside (written_read s (start + 1) n y)) outside
  where
    inside : with_words s (start + 1) (take n (drop (start + 1) (words_of s))) ≡ s → start < length (words_of s)
        → with_words s start (take (suc n) (drop start (words_of s))) ≡ s
    inside ih h = rw (drop-cons (words_of s) start 0 h, with_words_cons, with_word_same s start y h, ← add-one start) ih

    outside : (start < length (words_of s) → ⊥) → with_words s start (take (suc n) (drop start (words_of s))) ≡ s
    outside h = rw (drop_of_length-le (words_of s) {i = start} (omega arith)) (with_words_none s start)

-- one entry stored among n is the n as they were, with it, written back
pub row_stored : (s : List ℕ) (start n i v : ℕ) → Bytes s → start + n ≤ length (words_of s) → i < n
    → with_words s (start + i) (v ∷ []) ≡ with_words s start (set (take n (drop start (words_of s))) i v)
unfolding with_words
row_stored s start zero i v y h l = absurd (omega arith)
row_stored s start (suc n) zero v y h l =
    let t = with_word s start v in
    let e : start + 0 ≡ start = omega arith in
    let same : drop (suc start) (words_of s) ≡ drop (suc start) (words_of t) = sym (read_after s start (v ∷ []) (suc start) (omega arith)) in
    rw (e, drop-cons (words_of s) start 0 (omega arith), same, add-one) (sym (written_read t (suc start) n (with_word_bytes s start v y)))
row_stored s start (suc n) (suc i) v y h l =
    let e : start + suc i ≡ start + 1 + i = omega arith in
    let there : start < length (words_of s) = omega arith in
    ap (λ (k : ℕ). with_words s k (v ∷ [])) e
    ∙ row_stored s (start + 1) n i v y (omega arith) (omega arith)
    ∙ ap (λ (u : List ℕ). with_words u (start + 1) (set (take n (drop (start + 1) (words_of s))) i v)) (sym (with_word_same s start y there))
    ∙ rw (drop-cons (words_of s) start 0 there, with_words_cons s start, add-one)

-- ---- the bytes of numbers

-- an entry is four bytes in a row
pub with_word_overwrite : (s : List ℕ) (i v : ℕ) → i < length (words_of s) → with_word s i v ≡ overwrite s (4 * i) (bytes_of (v ∷ []))
unfolding with_word bytes_of overwrite
with_word_overwrite s i v h =
    rw (add-one, add-two, add-three)
    (sets-eq (bytes_of (v ∷ [])) s (4 * i) (omega (arith, words_length s)) ∙ append_assoc (take (4 * i) s) (bytes_of (v ∷ [])) _)

-- the stores write one piece of bytes, and all else stays
pub with_words_overwrite : (s : List ℕ) (start : ℕ) (vs : List ℕ) → start + length vs ≤ length (words_of s)
    → with_words s start vs ≡ overwrite s (4 * start) (bytes_of vs)
unfolding with_words bytes_of
with_words_overwrite s start [] h = sym (overwrite_none s (4 * start))
with_words_overwrite s start (v ∷ vs) h =
    let e : 4 * (start + 1) ≡ 4 * start + 4 = omega arith in
    with_words_overwrite (with_word s start v) (start + 1) vs (omega (arith, with_word_entries s start v))
    ∙ rw (e, with_word_overwrite s start v (omega arith)) (overwrite_more s (4 * start) (bytes_of (v ∷ [])) (bytes_of vs) (omega (arith, words_length s)))

-- bytes of numbers have an entry for each, which says the number where it has 32 bits
pub bytes_entries : (vs : List ℕ) → length (words_of (bytes_of vs)) ≡ length vs
unfolding words_of bytes_of
bytes_entries [] = refl
bytes_entries (v ∷ vs) = ap suc (bytes_entries vs)

pub words_bytes : (vs : List ℕ) → Words vs → words_of (bytes_of vs) ≡ vs
unfolding words_of bytes_of
words_bytes [] h = refl
words_bytes (v ∷ vs) h = rw (low v, whole v (h zero), words_bytes vs (λ i. h (suc i)))

-- A turn of the loops that read and write entries.
-- Assumes nothing.
use Prim.Native.Nat.{ℕ, ◌+◌, ◌≤◌, ◌<◌}
use mathlib.Core.Path.{◌≡◌, ◌∙◌, sym, ap, refl}
use mathlib.Core.List.{List}
use native.Mathlib.Omega.{arith}
use native.Mathlib.Numerals.{add-one}
use lib.ListN.{length, get_or, set, take, drop, length-set, length-drop}
use lib.Seq.{take_all, take-suc, take-suc-set, get_or-drop}
use Rattle.words.specs.Words.{words_of, with_word, with_words, zero_words}
use Rattle.words.specs.Laws.{with_words_none, with_words_more, with_words_entries, with_words_length, zero_words_length, zero_words_at}

-- out is filled up to i with the numbers of ws from start on
pub record Reading (ws : List ℕ) (start : ℕ) (out₀ out : List ℕ) (i : ℕ) : Type 0 where
  pub long : length out ≡ length out₀
  pub within : i ≤ length out
  pub filled : take i out ≡ take i (drop start ws)

module _ (ws : List ℕ) (start : ℕ) (out₀ : List ℕ) where
  pub read_start : Reading ws start out₀ out₀ 0
  read_start = record { long = refl; within = omega arith; filled = refl }

  pub read_more : (out : List ℕ) (i v : ℕ) → start + length out₀ ≤ length ws → Reading ws start out₀ out i → i < length out
      → v ≡ get_or ws (start + i) 0 → Reading ws start out₀ (set out i v) (i + 1)
  read_more out i v fits r h e =
      let there : i < length (drop start ws) = omega (arith, length-drop start ws, r.long) in
      let here : v ≡ get_or (drop start ws) i 0 = e ∙ sym (get_or-drop start ws i 0) in
      record {
        long = length-set out i v ∙ r.long;
        within = omega (arith, length-set out i v);
        filled = rw (add-one, take-suc-set out i v h, take-suc (drop start ws) i 0 there, r.filled, here);
      }

  pub read_end : (out : List ℕ) (i : ℕ) → Reading ws start out₀ out i → length out ≤ i → out ≡ take (length out₀) (drop start ws)
  read_end out i r h =
      let all : i ≡ length out₀ = omega (arith, r.long, r.within) in
      sym (take_all i out h) ∙ r.filled ∙ ap (λ (n : ℕ). take n (drop start ws)) all

-- the first i numbers of vs are written from start on
pub record Writing (s : List ℕ) (start : ℕ) (vs t : List ℕ) (i : ℕ) : Type 0 where
  pub within : i ≤ length vs
  pub written : t ≡ with_words s start (take i vs)

module _ (s : List ℕ) (start : ℕ) (vs : List ℕ) where
  pub write_start : Writing s start vs s 0
  write_start = record { within = omega arith; written = sym (with_words_none s start) }

  pub write_room : (t : List ℕ) (i : ℕ) → Writing s start vs t i → length (words_of t) ≡ length (words_of s)
  write_room t i w = ap (λ (u : List ℕ). length (words_of u)) w.written ∙ with_words_entries s start (take i vs)

  pub write_long : (t : List ℕ) (i : ℕ) → Writing s start vs t i → length t ≡ length s
  write_long t i w = ap length w.written ∙ with_words_length s start (take i vs)

  pub write_more : (t u : List ℕ) (i : ℕ) → Writing s start vs t i → i < length vs → u ≡ with_word t (start + i) (get_or vs i 0) → Writing s start vs u (i + 1)
  write_more t u i w h e = record {
    within = omega arith;
    written = e ∙ ap (λ (x : List ℕ). with_word x (start + i) (get_or vs i 0)) w.written ∙ with_words_more s start vs i h;
  }

  pub write_end : (t : List ℕ) (i : ℕ) → Writing s start vs t i → length vs ≤ i → t ≡ with_words s start vs
  write_end t i w h = w.written ∙ ap (with_words s start) (take_all i vs h)

-- a turn that writes zero
pub clear_more : (s : List ℕ) (start n : ℕ) (t u : List ℕ) (i : ℕ) → Writing s start (zero_words n) t i → i < n → u ≡ with_word t (start + i) 0
    → Writing s start (zero_words n) u (i + 1)
clear_more s start n t u i w h e =
    write_more s start (zero_words n) t u i w (omega (arith, zero_words_length n)) (e ∙ ap (with_word t (start + i)) (sym (zero_words_at n i)))

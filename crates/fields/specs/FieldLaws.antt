-- Laws of records in words, for every table: what is packed is unpacked and what is unpacked is packed; the fields one by one; a part of the
-- fields that is written alone.
-- Assumes nothing.
use Rattle.std.specs.Prelude.{ℕ, zero, suc, ◌+◌, ◌*◌, ◌≤◌, ◌<◌, ◌≡◌, refl, List, [], ◌∷◌, ◌++◌, length, get_or, set, take, drop}
use Rattle.std.proofs.Common.{sym, ap, ap₂, ◌∙◌, append_assoc, append-nil, arith, length-append, length-take, length-drop, length-set, drop-cons, drop-drop, take-add, take_at, drop_at, get_or-drop}
use Rattle.std.proofs.Math.Seq.{drop-append-add}
use Rattle.laws.specs.Each.{Each, each_at}
use Rattle.laws.specs.Overwrite.{overwrite, overwrite_front}
use Rattle.words.specs.Words.{Bytes, Words, words_of, with_words, bytes_of}
use Rattle.words.specs.Laws.{with_words_none, with_words_append, row_stored, with_words_bytes, with_words_entries, words_with_words, read_after, written_read}
use Rattle.words.specs.Laws.{with_words_overwrite}
use Rattle.fields.specs.Fields.{Field, word, array, Value, width, words_for, value_at, Values, word_count, packed, unpacked, Sized, joined, Same}

-- ---- packed and unpacked

value_taken : (f : Field) (k : ℕ) (ws : List ℕ) → k + width f ≤ length ws → words_for f (value_at f k ws) ≡ take (width f) (drop k ws)
value_taken word k ws h = rw (drop-cons ws k 0 (omega arith))
value_taken (array n) k ws h = refl

-- WHAT IS UNPACKED IS PACKED
pub packed_unpacked : (fs : List Field) (k : ℕ) (ws : List ℕ) → k + word_count fs ≤ length ws → packed fs (unpacked fs k ws) ≡ take (word_count fs) (drop k ws)
packed_unpacked [] k ws h = refl
packed_unpacked (f ∷ fs) k ws h =
    ap₂ (λ (a b : List ℕ). a ++ b) (value_taken f k ws (omega arith)) (packed_unpacked fs (k + width f) ws (omega arith))
    ∙ sym (take-add (width f) (word_count fs) (drop k ws) ∙ ap (λ (a : List ℕ). take (width f) (drop k ws) ++ take (word_count fs) a) (drop-drop (width f) k ws))

pub unpacked_sized : (fs : List Field) (k : ℕ) (ws : List ℕ) → k + word_count fs ≤ length ws → Sized fs (unpacked fs k ws)
unpacked_sized [] k ws h = tt
unpacked_sized (f ∷ fs) k ws h =
    (ap length (value_taken f k ws (omega arith)) ∙ simp (length-take, length-drop) (omega arith), unpacked_sized fs (k + width f) ws (omega arith))

pub packed_length : (fs : List Field) (vs : Values fs) → Sized fs vs → length (packed fs vs) ≡ word_count fs
packed_length [] vs z = refl
packed_length (f ∷ fs) (v, vs) z = omega (arith, length-append (words_for f v) (packed fs vs), packed_length fs vs z.1, z.0)

-- the value of a field that stands at word k
value_read : (f : Field) (v : Value f) (k : ℕ) (ws rest : List ℕ) → length (words_for f v) ≡ width f → drop k ws ≡ words_for f v ++ rest → value_at f k ws ≡ v
value_read word v k ws rest l e = let z : k + 0 ≡ k = omega arith in rw z at (sym (get_or-drop k ws 0 0) ∙ ap (λ (us : List ℕ). get_or us 0 0) e)
value_read (array n) a k ws rest l e = ap (take n) e ∙ take_at a rest n l

-- WHAT IS PACKED IS UNPACKED, whatever stands before and behind it
pub unpacked_packed : (fs : List Field) (vs : Values fs) (k : ℕ) (ws rest : List ℕ) → Sized fs vs → drop k ws ≡ packed fs vs ++ rest → unpacked fs k ws ≡ vs
unpacked_packed [] vs k ws rest z e = refl
unpacked_packed (f ∷ fs) (v, vs) k ws rest z e =
    let apart : drop k ws ≡ words_for f v ++ (packed fs vs ++ rest) = e ∙ append_assoc (words_for f v) (packed fs vs) rest in
    let first : value_at f k ws ≡ v = value_read f v k ws _ z.0 apart in
    let past : drop (k + width f) ws ≡ packed fs vs ++ rest = sym (drop-drop (width f) k ws) ∙ ap (drop (width f)) apart
    ∙ drop_at (words_for f v) _ (width f) z.0 in
    let others : unpacked fs (k + width f) ws ≡ vs = unpacked_packed fs vs (k + width f) ws rest z.1 past in
    λ i. (first i, others i)

-- ---- one table behind another

pub packed_joined : (fs gs : List Field) (vs : Values fs) (us : Values gs) → packed (fs ++ gs) (joined fs gs vs us) ≡ packed fs vs ++ packed gs us
packed_joined [] gs vs us = refl
packed_joined (f ∷ fs) gs (v, vs) us =
    ap (λ (a : List ℕ). words_for f v ++ a) (packed_joined fs gs vs us) ∙ sym (append_assoc (words_for f v) (packed fs vs) (packed gs us))

-- ---- read and written field by field

pub same_values : (fs : List Field) (vs us : Values fs) → Same fs vs us → vs ≡ us
same_values [] vs us p = refl
same_values (e ∷ []) (a, vs) (b, us) p = λ i. (p i, tt)
same_values (e ∷ (f ∷ [])) (a, (a₁, vs)) (b, (b₁, us)) p = λ i. (p.0 i, (p.1 i, tt))
same_values (e ∷ (f ∷ (g ∷ []))) (a, (a₁, (a₂, vs))) (b, (b₁, (b₂, us))) p = λ i. (p.0 i, (p.1 i, (p.2 i, tt)))
same_values (e ∷ (f ∷ (g ∷ (h ∷ fs)))) (a, (a₁, (a₂, (a₃, vs)))) (b, (b₁, (b₂, (b₃, us)))) p =
    let others = same_values fs vs us p.4 in λ i. (p.0 i, (p.1 i, (p.2 i, (p.3 i, others i))))

abbrev pub store_run : List ℕ → ℕ → List ℕ → List ℕ
store_run s k [] = s
store_run s k (v ∷ vs) = with_words s k (v ∷ vs)

-- a string after the fields are written from word k on, numbers in a row by one store; `run` are those that wait for it
abbrev pub stored : (fs : List Field) → ℕ → List ℕ → List ℕ → Values fs → List ℕ
stored [] k s run vs = store_run s k run
stored (word ∷ fs) k s run (v, vs) = stored fs k s (run ++ (v ∷ [])) vs
stored (array n ∷ fs) k s run (a, vs) = stored fs (k + length run + n) (with_words (store_run s k run) (k + length run) a) [] vs

run_stored : (s : List ℕ) (k : ℕ) (run : List ℕ) → store_run s k run ≡ with_words s k run
unfolding with_words
run_stored s k [] = refl
run_stored s k (v ∷ run) = refl

pub fields_stored : (fs : List Field) (k : ℕ) (s run : List ℕ) (vs : Values fs) → Sized fs vs → stored fs k s run vs ≡ with_words s k (run ++ packed fs vs)
fields_stored [] k s run vs z = run_stored s k run ∙ ap (with_words s k) (sym (append-nil run))
fields_stored (word ∷ fs) k s run (v, vs) z = fields_stored fs k s (run ++ (v ∷ [])) vs z.1 ∙ ap (with_words s k) (append_assoc run (v ∷ []) (packed fs vs))
fields_stored (array n ∷ fs) k s run (a, vs) z =
    let t : List ℕ = with_words s k run in
    fields_stored fs (k + length run + n) (with_words (store_run s k run) (k + length run) a) [] vs z.1
    ∙ rw (run_stored s k run, ← z.0)
    (sym (with_words_append t (k + length run) a (packed fs vs)) ∙ sym (with_words_append s k run (a ++ packed fs vs)))

-- WHAT IS WRITTEN IS READ BACK
pub fields_written : (fs : List Field) (s : List ℕ) (vs : Values fs) → Sized fs vs → Words (packed fs vs) → word_count fs ≤ length (words_of s)
    → unpacked fs 0 (words_of (with_words s 0 (packed fs vs))) ≡ vs
fields_written fs s vs z y h =
    unpacked_packed fs vs 0 _ (drop (length (packed fs vs)) (words_of s)) z
    (words_with_words s 0 (packed fs vs) y (omega (arith, packed_length fs vs z)) ∙ overwrite_front (words_of s) (packed fs vs))

-- ---- a part of the fields that is written alone

-- fields are read from their first word on
unpacked_later : (fs : List Field) (k : ℕ) (ws us : List ℕ) → drop k ws ≡ drop k us → unpacked fs k ws ≡ unpacked fs k us
unpacked_later [] k ws us e = refl
unpacked_later (f ∷ fs) k ws us e =
    let first : value_at f k ws ≡ value_at f k us = value_later f k ws us e in
    let others : unpacked fs (k + width f) ws ≡ unpacked fs (k + width f) us =
    unpacked_later fs (k + width f) ws us (sym (drop-drop (width f) k ws) ∙ ap (drop (width f)) e ∙ drop-drop (width f) k us)
    in λ i. (first i, others i)
  where
    value_later : (f : Field) (k : ℕ) (ws us : List ℕ) → drop k ws ≡ drop k us → value_at f k ws ≡ value_at f k us
    value_later word k ws us e = let z : k + 0 ≡ k = omega arith in rw z at (sym (get_or-drop k ws 0 0) ∙ ap (λ (x : List ℕ). get_or x 0 0) e ∙ get_or-drop k us 0 0)
    value_later (array n) k ws us e = ap (take n) e

-- WHAT WAS READ IS WRITTEN BACK
pub fields_kept : (fs : List Field) (k : ℕ) (s : List ℕ) → Bytes s → k + word_count fs ≤ length (words_of s)
    → with_words s k (packed fs (unpacked fs k (words_of s))) ≡ s
fields_kept fs k s y h = ap (with_words s k) (packed_unpacked fs k (words_of s) h) ∙ written_read s k (word_count fs) y

-- fields ms between others, bs before them and gs behind them
module _ (bs ms gs : List Field) (s : List ℕ) (y : Bytes s) (h : word_count bs + (word_count ms + word_count gs) ≤ length (words_of s)) (m : Values ms)
    (z : Sized ms m) where
  -- THE PART WRITTEN IS THE WHOLE WITH IT, WRITTEN BACK
  pub part_written : with_words s (word_count bs) (packed ms m)
      ≡ with_words s 0 (packed (bs ++ (ms ++ gs)) (joined bs (ms ++ gs) (unpacked bs 0 (words_of s))
      (joined ms gs m (unpacked gs (word_count bs + word_count ms) (words_of s)))))
  part_written =
      let ws = words_of s in
      let far = word_count bs + word_count ms in
      let t = with_words s (word_count bs) (packed ms m) in
      let before : List ℕ = packed bs (unpacked bs 0 ws) in
      let after : List ℕ = packed gs (unpacked gs far ws) in
      let long : 0 + length before ≡ word_count bs = omega (arith, packed_length bs (unpacked bs 0 ws) (unpacked_sized bs 0 ws (omega arith))) in
      let past : word_count bs + length (packed ms m) ≡ far = omega (arith, packed_length ms m z) in
      let same : unpacked gs far ws ≡ unpacked gs far (words_of t) = unpacked_later gs far ws (words_of t)
      (sym (read_after s (word_count bs) (packed ms m) far (omega arith))) in
      sym
      (ap (with_words s 0) (packed_joined bs (ms ++ gs) _ _ ∙ ap (λ (a : List ℕ). before ++ a) (packed_joined ms gs m _))
      ∙ with_words_append s 0 before (packed ms m ++ after)
      ∙ rw (long, fields_kept bs 0 s y (omega arith))
      (with_words_append s (word_count bs) (packed ms m) after
      ∙ rw (past, same) (fields_kept gs far t (with_words_bytes s (word_count bs) (packed ms m) y)
      (omega (arith, with_words_entries s (word_count bs) (packed ms m))))))

-- ---- a part written over a record that was written before

-- m stands behind a, and n is as long
over_part : (a m n r : List ℕ) → length m ≡ length n → overwrite (a ++ (m ++ r)) (length a) n ≡ a ++ (n ++ r)
unfolding overwrite
over_part a m n r e =
    ap₂ (λ (x y : List ℕ). x ++ (n ++ y)) (take_at a (m ++ r) (length a) refl) (drop-append-add a (m ++ r) (length n) ∙ drop_at m r (length n) e)

bytes_append : (a b : List ℕ) → bytes_of (a ++ b) ≡ bytes_of a ++ bytes_of b
unfolding bytes_of
bytes_append [] b = refl
bytes_append (v ∷ a) b = rw (bytes_append a b)

bytes_length : (a : List ℕ) → length (bytes_of a) ≡ 4 * length a
unfolding bytes_of
bytes_length [] = refl
bytes_length (v ∷ a) = omega (arith, bytes_length a)

words_again : (s a m n r : List ℕ) → length m ≡ length n → length a + (length m + length r) ≤ length (words_of s)
    → with_words (with_words s 0 (a ++ (m ++ r))) (length a) n ≡ with_words s 0 (a ++ (n ++ r))
words_again s a m n r e h =
    with_words_overwrite (with_words s 0 (a ++ (m ++ r))) (length a) n (omega (arith, with_words_entries s 0 (a ++ (m ++ r))))
    ∙ ap₂ (λ (x : List ℕ) (k : ℕ). overwrite x k (bytes_of n)) (front m refl) (sym (bytes_length a))
    ∙ over_part (bytes_of a) (bytes_of m) (bytes_of n) _ (omega (arith, bytes_length m, bytes_length n))
    ∙ sym (front n (sym e))
  where
    -- as bytes, x being as long as m
    front : (x : List ℕ) → length x ≡ length m
        → with_words s 0 (a ++ (x ++ r)) ≡ bytes_of a ++ (bytes_of x ++ (bytes_of r ++ drop (4 * (length a + (length m + length r))) s))
    front x l =
        let w : List ℕ = a ++ (x ++ r) in
        let rest : List ℕ = drop (4 * (length a + (length m + length r))) s in
        let long : length w ≡ length a + (length m + length r) = omega (arith, length-append a (x ++ r), length-append x r) in
        let far : length (bytes_of w) ≡ 4 * (length a + (length m + length r)) = omega (arith, bytes_length w) in
        with_words_overwrite s 0 w (omega arith)
        ∙ overwrite_front s (bytes_of w)
        ∙ ap₂ (λ (b : List ℕ) (k : ℕ). b ++ drop k s) (bytes_append a (x ++ r) ∙ ap (λ (b : List ℕ). bytes_of a ++ b) (bytes_append x r)) far
        ∙ append_assoc (bytes_of a) (bytes_of x ++ bytes_of r) rest
        ∙ ap (λ (b : List ℕ). bytes_of a ++ b) (append_assoc (bytes_of x) (bytes_of r) rest)

-- THE PART WRITTEN OVER IT IS THE RECORD WITH IT, WRITTEN; fields bs stand before the part and gs behind it
pub part_again : (bs ms gs : List Field) (s : List ℕ) (b : Values bs) (m n : Values ms) (g : Values gs) → Sized bs b → Sized ms m → Sized ms n → Sized gs g
    → word_count bs + (word_count ms + word_count gs) ≤ length (words_of s)
    → with_words (with_words s 0 (packed (bs ++ (ms ++ gs)) (joined bs (ms ++ gs) b (joined ms gs m g)))) (word_count bs) (packed ms n)
    ≡ with_words s 0 (packed (bs ++ (ms ++ gs)) (joined bs (ms ++ gs) b (joined ms gs n g)))
part_again bs ms gs s b m n g zb zm zn zg h =
    let lb = packed_length bs b zb in
    let lm = packed_length ms m zm in
    let ln = packed_length ms n zn in
    let lg = packed_length gs g zg in
    ap₂ (λ (w : List ℕ) (k : ℕ). with_words (with_words s 0 w) k (packed ms n)) (apart m) (sym lb)
    ∙ words_again s (packed bs b) (packed ms m) (packed ms n) (packed gs g) (lm ∙ sym ln) (omega arith)
    ∙ ap (with_words s 0) (sym (apart n))
  where
    apart : (x : Values ms) → packed (bs ++ (ms ++ gs)) (joined bs (ms ++ gs) b (joined ms gs x g)) ≡ packed bs b ++ (packed ms x ++ packed gs g)
    apart x = packed_joined bs (ms ++ gs) b (joined ms gs x g) ∙ ap (λ (w : List ℕ). packed bs b ++ w) (packed_joined ms gs x g)

-- ---- a column: entry i of arrays of n that stand in a row, one for each of the numbers vs

abbrev pub arrays_for : List ℕ → ℕ → List Field
arrays_for [] n = []
arrays_for (v ∷ vs) n = array n ∷ arrays_for vs n

-- the arrays with these numbers as their entries i
abbrev pub column_set : (vs : List ℕ) (n i : ℕ) → Values (arrays_for vs n) → Values (arrays_for vs n)
column_set [] n i rows = tt
column_set (v ∷ vs) n i (a, rows) = (set a i v, column_set vs n i rows)

-- a string after the entries are written one by one, where the first array starts at word k
abbrev pub column_stored : (vs : List ℕ) (n i k : ℕ) → List ℕ → List ℕ
column_stored [] n i k s = s
column_stored (v ∷ vs) n i k s = column_stored vs n i (k + n) (with_words s (k + i) (v ∷ []))

column_sized : (vs : List ℕ) (n i : ℕ) (rows : Values (arrays_for vs n)) → Sized (arrays_for vs n) rows → Sized (arrays_for vs n) (column_set vs n i rows)
column_sized [] n i rows z = tt
column_sized (v ∷ vs) n i (a, rows) z = (length-set a i v ∙ z.0, column_sized vs n i rows z.1)

column_stored_law : (vs : List ℕ) (n i k : ℕ) (s : List ℕ) → Bytes s → i < n → k + word_count (arrays_for vs n) ≤ length (words_of s)
    → column_stored vs n i k s ≡ with_words s k (packed (arrays_for vs n) (column_set vs n i (unpacked (arrays_for vs n) k (words_of s))))
column_stored_law [] n i k s y l h = sym (with_words_none s k)
column_stored_law (v ∷ vs) n i k s y l h =
    let fs = arrays_for vs n in
    let t = with_words s (k + i) (v ∷ []) in
    let row : List ℕ = set (take n (drop k (words_of s))) i v in
    let long : length row ≡ n = length-set (take n (drop k (words_of s))) i v ∙ simp (length-take, length-drop) (omega arith) in
    let same : unpacked fs (k + n) (words_of t) ≡ unpacked fs (k + n) (words_of s) = unpacked_later fs (k + n) _ _
    (read_after s (k + i) (v ∷ []) (k + n) (omega arith)) in
    column_stored_law vs n i (k + n) t (with_words_bytes s (k + i) (v ∷ []) y) l (omega (arith, with_words_entries s (k + i) (v ∷ [])))
    ∙ ap₂ (λ (u : List ℕ) (rows : Values fs). with_words u (k + n) (packed fs (column_set vs n i rows))) (row_stored s k n i v y (omega arith) l) same
    ∙ ap (λ (m : ℕ). with_words (with_words s k row) (k + m) (packed fs (column_set vs n i (unpacked fs (k + n) (words_of s))))) (sym long)
    ∙ sym (with_words_append s k row _)

-- THE COLUMN WRITTEN IS THE WHOLE WITH IT, WRITTEN BACK; fields bs stand before the arrays and gs behind them
pub column_written : (bs gs : List Field) (vs : List ℕ) (n i : ℕ) (s : List ℕ) → Bytes s → i < n
    → word_count bs + (word_count (arrays_for vs n) + word_count gs) ≤ length (words_of s)
    → column_stored vs n i (word_count bs) s
    ≡ with_words s 0 (packed (bs ++ (arrays_for vs n ++ gs))
    (joined bs (arrays_for vs n ++ gs) (unpacked bs 0 (words_of s))
    (joined (arrays_for vs n) gs (column_set vs n i (unpacked (arrays_for vs n) (word_count bs) (words_of s)))
    (unpacked gs (word_count bs + word_count (arrays_for vs n)) (words_of s)))))
column_written bs gs vs n i s y l h =
    let fs = arrays_for vs n in
    column_stored_law vs n i (word_count bs) s y l (omega arith)
    ∙ part_written bs fs gs s y h _ (column_sized vs n i _ (unpacked_sized fs (word_count bs) (words_of s) (omega arith)))

-- ---- numbers of 32 bits

abbrev pub Fit : (f : Field) → Value f → Type 0
Fit word v = v < 4294967296
Fit (array n) a = Words a

abbrev pub AllFit : (fs : List Field) → Values fs → Type 0
AllFit [] vs = Unit {0}
AllFit (f ∷ fs) (v, vs) = Fit f v × AllFit fs vs

pub words_each : (vs : List ℕ) → Each (λ v. v < 4294967296) vs → Words vs
words_each vs h i = each_at (λ (v : ℕ). v < 4294967296) vs i 0 h (omega arith)

words_append : (a b : List ℕ) → Words a → Words b → Words (a ++ b)
words_append [] b x y i = y i
words_append (v ∷ a) b x y zero = x 0
words_append (v ∷ a) b x y (suc i) = words_append a b (λ j. x (suc j)) y i

pub packed_fit : (fs : List Field) (vs : Values fs) → AllFit fs vs → Words (packed fs vs)
packed_fit [] vs y = λ i. omega arith
packed_fit (word ∷ fs) (v, vs) y = words_append (v ∷ []) (packed fs vs) (words_each (v ∷ []) (y.0, tt)) (packed_fit fs vs y.1)
packed_fit (array n ∷ fs) (a, vs) y = words_append a (packed fs vs) y.0 (packed_fit fs vs y.1)

pub joined_fit : (fs gs : List Field) (vs : Values fs) (us : Values gs) → Words (packed fs vs) → AllFit gs us → Words (packed (fs ++ gs) (joined fs gs vs us))
joined_fit fs gs vs us x y = rw (packed_joined fs gs vs us) (words_append (packed fs vs) (packed gs us) x (packed_fit gs us y))

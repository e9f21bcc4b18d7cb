-- Each way that the answer to a text can take.
-- Assumes nothing.
use Prim.Native.Nat.{ℕ, zero, suc, ◌*◌, ◌≤◌, ◌<◌}
use mathlib.Core.Path.{◌≡◌, refl, sym, ap, ap₂, ◌∙◌, subst}
use mathlib.Core.List.{List, [], ◌∷◌, ◌++◌, map}
use mathlib.Core.Bool.{Bool, true, false, cond}
use native.Mathlib.Omega.{arith}
use lib.ListN.{length, get_or, drop}
use borrow.Author.Tests.{le-leb, lt-leb}
use Rattle.numbers.specs.Limits.{straight_kind, max_zones, max_bytes, max_rate}
use Rattle.numbers.specs.Units.{sector_bytes}
use Rattle.numbers.specs.Refusals.{line_form, wrong_heading, wrong_zones}
use Rattle.std.specs.Prelude.{Some, Result, Ok, Err}
use Rattle.decimal.specs.DecimalLaws.{found}
use Rattle.card.specs.declared.Figures.{Figures}
use Rattle.card_field.specs.declared.Rule.TheVariants as rule
use Rattle.card_field.specs.Ranges.{first, below, above, outside, fault_of}
use Rattle.card_field.specs.RangeLaws.{first_none}
use Rattle.card.specs.Card.{one_film, shelf_fault, record_fault, film_fault}
use Rattle.card.specs.Read.{blank_zones}
use Rattle.tracks.specs.Tracks.{positions_in, time_in, narrowed}
use Rattle.maker_lines.specs.declared.Drive.{Drive}
use Rattle.maker_rows.specs.declared.Rows.{Rows}
use Rattle.maker_rows.specs.declared.RefusedRow.{RefusedRow}
use Rattle.maker_lines.specs.Lines.{Heading, space, line_feed, word_at, heading_fits, judged_heading, heading_in}
use Rattle.maker_rows.specs.Rows.{Row, cylinders_of, Listed, Zones, Refused, rows_from}
use Rattle.maker_rows.specs.Kept.{back_by, Kept, Holds}
use Rattle.maker.specs.Fitting.{move_in, Fitting}
use Rattle.maker.specs.Maker.{padded, filled, positions_of, time_of, figures_of, refused_text}
use Rattle.maker.specs.Maker.{answered, judged_figures, on_rows, on_heading, read_maker}
use Rattle.maker_lines.proofs.LineWays.{HeadingFacts, heading_facts}
use Rattle.maker_rows.proofs.RowWays.{then_from}
use Rattle.maker.proofs.MoveWays.{table_same, moves_kept}
use Rattle.maker.proofs.NarrowWays.{Narrow, accepted_film, accepted_same, judged_same}

-- ---- line one

judged_numbers : (turns switch heads block next : ℕ) {d : Drive} {n : ℕ} → judged_heading turns switch heads block next ≡ Ok (d, n)
    → (heading_fits turns switch heads block ≡ true) × (turns ≡ d.turns) × (switch ≡ d.switch) × (heads ≡ d.heads) × (block ≡ d.block) × (next ≡ n)
unfolding judged_heading
judged_numbers turns switch heads block next {d} {n} e = go (heading_fits turns switch heads block) refl e
  where
    drive : Drive
    drive = record { turns = turns; switch = switch; heads = heads; block = block }

    go : (x : Bool) → heading_fits turns switch heads block ≡ x → cond {A = Heading} x (Ok (drive, next)) (Err wrong_heading) ≡ Ok (d, n)
        → (heading_fits turns switch heads block ≡ true) × (turns ≡ d.turns) × (switch ≡ d.switch) × (heads ≡ d.heads) × (block ≡ d.block) × (next ≡ n)
    go true q e =
        let same : ◌≡◌ {A = Drive × ℕ} (drive, next) (d, n) = cc in
        let of : drive ≡ d = ap (λ (x : Drive × ℕ). x.0) same in (
          q,
          ap (λ (x : Drive). x.turns) of,
          ap (λ (x : Drive). x.switch) of,
          ap (λ (x : Drive). x.heads) of,
          ap (λ (x : Drive). x.block) of,
          ap (λ (x : Drive × ℕ). x.1) same,
        )
    go false q e = absurd (let z : ◌≡◌ {A = ℕ} 0 1 = cc in omega arith)

facts_of : {turns switch heads block t w h b : ℕ} → HeadingFacts turns switch heads block → turns ≡ t → switch ≡ w → heads ≡ h → block ≡ b
    → HeadingFacts t w h b
facts_of f p q r u = record {
  turns_in = omega (arith, f.turns_in);
  switch_in = omega (arith, f.switch_in);
  heads_in = omega (arith, f.heads_in);
  block_in_law = omega (arith, f.block_in_law);
}

-- what line one was read from
pub record HeadingWords (s : List ℕ) (d : Drive) (next : ℕ) : Type 0 where
  pub at₁ : ℕ
  pub at₂ : ℕ
  pub at₃ : ℕ
  pub one : word_at space s 0 ≡ Some (d.turns, at₁)
  pub two : word_at space s at₁ ≡ Some (d.switch, at₂)
  pub three : word_at space s at₂ ≡ Some (d.heads, at₃)
  pub four : word_at line_feed s at₃ ≡ Some (d.block, next)
  pub facts : HeadingFacts d.turns d.switch d.heads d.block

pub heading_words : (s : List ℕ) (d : Drive) (next : ℕ) → heading_in s ≡ Ok (d, next) → HeadingWords s d next
unfolding heading_in
heading_words s d next e =
    let one = then_from (word_at space s 0) _ _ bad e in
    let two = then_from (word_at space s one.1) _ _ bad one.3 in
    let three = then_from (word_at space s two.1) _ _ bad two.3 in
    let four = then_from (word_at line_feed s three.1) _ _ bad three.3 in
    let judged = judged_numbers one.0 two.0 three.0 four.0 four.1 four.3 in
    let facts = heading_facts one.0 two.0 three.0 four.0 judged.0 in
    record {
      at₁ = one.1;
      at₂ = two.1;
      at₃ = three.1;
      one = one.2 ∙ ap (λ (x : ℕ). found x one.1) judged.1;
      two = two.2 ∙ ap (λ (x : ℕ). found x two.1) judged.2;
      three = three.2 ∙ ap (λ (x : ℕ). found x three.1) judged.3;
      four = four.2 ∙ ap₂ found judged.4 judged.5;
      facts = facts_of facts judged.1 judged.2 judged.3 judged.4;
    }
  where
    bad : ◌≡◌ {A = Heading} (Err line_form) (Ok (d, next)) → ⊥
    bad e = let z : ◌≡◌ {A = ℕ} 0 1 = cc in omega arith

-- ---- the rows that the code keeps

holds_zones : (r : Rows) (L : Listed) → Holds (Ok r) L → (zs : List Row) × (L ≡ Zones zs) × Kept r zs
holds_zones r (Zones zs) h = (zs, refl, h)
holds_zones r (Refused k line) h = absurd h

holds_refused : (f : RefusedRow) (L : Listed) → Holds (Err f) L → L ≡ Refused f.number f.line
holds_refused f (Zones zs) h = absurd h
holds_refused f (Refused k line) h = ap₂ Refused (sym h.1) (sym h.2)

-- ---- the figures

-- over 64 rows are 4
many_zones : (f : Figures) → f.kind ≡ straight_kind → max_zones < f.zones → record_fault 1 f ≡ wrong_zones
unfolding record_fault fault_of outside below above first
many_zones f e h = rw (e, le-leb 1 f.zones (omega arith), lt-leb f.zones max_zones h)

many_judged : (f : Figures) → f.kind ≡ straight_kind → max_zones < f.zones → refused_text wrong_zones 0 ≡ judged_figures f
unfolding judged_figures answered
many_judged f e h = rw (many_zones f e h)

map_drop : (h : ℕ → ℕ) (n : ℕ) (xs : List ℕ) → map h (drop n xs) ≡ drop n (map h xs)
map_drop h zero xs = refl
map_drop h (suc n) [] = refl
map_drop h (suc n) (x ∷ xs) = map_drop h n xs

map_append : (h : ℕ → ℕ) (xs ys : List ℕ) → map h (xs ++ ys) ≡ map h xs ++ map h ys
map_append h [] ys = refl
map_append h (x ∷ xs) ys = ap (λ (zs : List ℕ). h x ∷ zs) (map_append h xs ys)

map_twice : (h : ℕ → ℕ) (f : Row → ℕ) (zs : List Row) → map h (map f zs) ≡ map (λ (z : Row). h (f z)) zs
map_twice h f [] = refl
map_twice h f (z ∷ zs) = ap (λ (xs : List ℕ). h (f z) ∷ xs) (map_twice h f zs)

map_long : (h : ℕ → ℕ) (xs : List ℕ) → length (map h xs) ≡ length xs
map_long h [] = refl
map_long h (x ∷ xs) = ap suc (map_long h xs)

-- narrowed entries, filled up with zeros
padded_narrowed : (xs : List ℕ) → map narrowed (padded xs) ≡ padded (map narrowed xs)
unfolding padded narrowed
padded_narrowed xs =
    map_append narrowed xs (drop (length xs) blank_zones)
    ∙ ap (λ (ys : List ℕ). map narrowed xs ++ ys)
    (map_drop narrowed (length xs) blank_zones ∙ ap₂ (λ (n : ℕ) (ys : List ℕ). drop n ys) (sym (map_long narrowed xs)) blanks)
  where
    blanks : map narrowed blank_zones ≡ blank_zones
    blanks = unfold blank_zones in refl

-- the entries of rows that are kept
kept_entries : (r : Rows) (zs : List Row) → Kept r zs → r.count ≤ max_zones → (f : ℕ → ℕ → ℕ) (h : Row → ℕ) → ((z : Row) → f (cylinders_of z) z.track ≡ h z)
    → padded (back_by r.count (λ k. narrowed (f (get_or r.cylinders k 0) (get_or r.tracks k 0)))) ≡ map narrowed (padded (map h zs))
kept_entries r zs k m f h same =
    ap (λ (n : ℕ). padded (back_by n (λ k. narrowed (f (get_or r.cylinders k 0) (get_or r.tracks k 0))))) k.count
    ∙ ap padded (k.same (omega (arith, k.count)) (λ c t. narrowed (f c t)) ∙ each zs ∙ sym (map_twice narrowed h zs))
    ∙ sym (padded_narrowed (map h zs))
  where
    each : (xs : List Row) → map (λ (z : Row). narrowed (f (cylinders_of z) z.track)) xs ≡ map (λ (z : Row). narrowed (h z)) xs
    each [] = refl
    each (z ∷ xs) = ap₂ (λ (x : ℕ) (ys : List ℕ). x ∷ ys) (ap narrowed (same z)) (each xs)

-- a record and the one that the code fills
filled_narrow : (z z' : ℕ) (ps ts ps' ts' : List ℕ) (block n c hop ret : ℕ) → z' ≡ z → ps' ≡ map narrowed ps → ts' ≡ map narrowed ts
    → Narrow (filled z ps ts block n c hop ret) (filled z' ps' ts' block n c (move_in hop) (move_in ret))
unfolding filled film_fault
filled_narrow z z' ps ts ps' ts' block n c hop ret a b d = record {
  kind = refl;
  zones = a;
  positions = b;
  times = d;
  film = λ total. ap (λ (k : ℕ). first (shelf_fault 1 total 1 (one_film n))
      (first (fault_of rule.Measure max_bytes (sector_bytes * block)) (first (fault_of rule.Measure max_rate c) k))) (table_same hop ret);
}

-- hop and return of a film that is not refused
filled_moves : (z : ℕ) (ps ts : List ℕ) (block n c hop ret total : ℕ) → film_fault 1 (filled z ps ts block n c hop ret) total ≡ 0
    → (move_in hop ≡ hop) × (move_in ret ≡ ret)
unfolding filled film_fault
filled_moves z ps ts block n c hop ret total e =
    let a = first_none (shelf_fault 1 total 1 (one_film n)) _ e in
    let b = first_none (fault_of rule.Measure max_bytes (sector_bytes * block)) _ a.1 in
    let r = first_none (fault_of rule.Measure max_rate c) _ b.1 in
    moves_kept hop ret r.1

filled_same : (z z' : ℕ) (ps ts ps' ts' : List ℕ) (block n c hop ret hop' ret' : ℕ) → z' ≡ z
    → ((filled z' ps' ts' block n c hop' ret').positions ≡ (filled z ps ts block n c hop ret).positions)
    → ((filled z' ps' ts' block n c hop' ret').times ≡ (filled z ps ts block n c hop ret).times)
    → hop' ≡ hop → ret' ≡ ret → filled z' ps' ts' block n c hop' ret' ≡ filled z ps ts block n c hop ret
unfolding filled
filled_same z z' ps ts ps' ts' block n c hop ret hop' ret' a b d h k =
    ap (λ (x : ℕ). filled x ps' ts' block n c hop' ret') a
    ∙ ap₂ (λ (x y : List ℕ). filled z x y block n c hop' ret') b d
    ∙ ap₂ (λ (x y : ℕ). filled z ps ts block n c x y) h k

-- the code's figures are judged as those of the text
figures_alike : (d : Drive) (r : Rows) (zs : List Row) → Kept r zs → r.count ≤ max_zones → (n c hop ret : ℕ) (ps ts : List ℕ)
    → ps ≡ padded (back_by r.count (λ k. narrowed (positions_in d.heads d.block (get_or r.cylinders k 0) (get_or r.tracks k 0))))
    → ts ≡ padded (back_by r.count (λ k. narrowed (time_in d.turns d.switch d.block (get_or r.tracks k 0))))
    → judged_figures (filled r.count ps ts d.block n c (move_in hop) (move_in ret)) ≡ judged_figures (figures_of d zs n c hop ret)
unfolding figures_of positions_of time_of
figures_alike d r zs k m n c hop ret ps ts p t =
    judged_same _ _ same (λ e.
    let a = accepted_same _ _ same e in
    let film = accepted_film _ _ same e in
    let m = filled_moves (length zs) (padded (map (positions_of d) zs)) (padded (map (time_of d) zs)) d.block n c hop ret film.0 film.1 in
    filled_same _ _ _ _ _ _ d.block n c hop ret (move_in hop) (move_in ret) k.count a.0 a.1 m.0 m.1)
  where
    same : Narrow (filled (length zs) (padded (map (positions_of d) zs)) (padded (map (time_of d) zs)) d.block n c hop ret)
        (filled r.count ps ts d.block n c (move_in hop) (move_in ret))
    same = filled_narrow _ _ _ _ _ _ d.block n c hop ret k.count
        (p ∙ kept_entries r zs k m (λ x y. positions_in d.heads d.block x y) (positions_of d) (λ z. refl))
        (t ∙ kept_entries r zs k m (λ x y. time_in d.turns d.switch d.block y) (time_of d) (λ z. refl))

-- ---- the answer

module _ (s : List ℕ) (n c hop ret : ℕ) (H : Heading) (read : H ≡ heading_in s) where
  pub answer_heading : {k : ℕ} → H ≡ Err k → refused_text k 1 ≡ read_maker s n c hop ret
  unfolding read_maker on_heading
  answer_heading e = ap (on_heading s n c hop ret) (sym e ∙ read)

  module _ {d : Drive} {next : ℕ} (e : H ≡ Ok (d, next)) where
    -- what is left are the rows
    answer_is : (L : Listed) → rows_from (length s) s next [] ≡ L → on_rows d n c hop ret L ≡ read_maker s n c hop ret
    unfolding read_maker on_heading
    answer_is L q = ap (on_rows d n c hop ret) (sym q) ∙ ap (on_heading s n c hop ret) (sym e ∙ read)

    module _ (R : Result Rows RefusedRow) (rows : Holds R (rows_from (length s) s next [])) where
      pub answer_row : {f : RefusedRow} → R ≡ Err f → refused_text f.number f.line ≡ read_maker s n c hop ret
      unfolding on_rows
      answer_row {f} q = answer_is (Refused f.number f.line) (holds_refused f _ (subst (λ (x : Result Rows RefusedRow). Holds x (rows_from (length s) s next [])) q rows))

      module _ {r : Rows} (good : R ≡ Ok r) where
        zones : (zs : List Row) × (rows_from (length s) s next [] ≡ Zones zs) × Kept r zs
        zones = holds_zones r _ (subst (λ (x : Result Rows RefusedRow). Holds x (rows_from (length s) s next [])) good rows)

        pub answer_many : max_zones < r.count → refused_text wrong_zones 0 ≡ read_maker s n c hop ret
        unfolding on_rows figures_of filled
        answer_many h = many_judged (figures_of d zones.0 n c hop ret) refl (omega (arith, zones.2.count)) ∙ answer_is (Zones zones.0) zones.1

        pub drive_fits : r.count ≤ max_zones → Fitting d r
        drive_fits h =
            let f = (heading_words s d next (sym read ∙ e)).facts in
            record {
              turns = f.turns_in;
              switch = f.switch_in.1;
              heads = f.heads_in.1;
              block = f.block_in_law;
              few = h;
              rows = λ k l. zones.2.fits k (omega (arith, zones.2.count)) (omega arith);
            }

        pub answer_figures : r.count ≤ max_zones → (ps ts : List ℕ)
            → ps ≡ padded (back_by r.count (λ k. narrowed (positions_in d.heads d.block (get_or r.cylinders k 0) (get_or r.tracks k 0))))
            → ts ≡ padded (back_by r.count (λ k. narrowed (time_in d.turns d.switch d.block (get_or r.tracks k 0))))
            → judged_figures (filled r.count ps ts d.block n c (move_in hop) (move_in ret)) ≡ read_maker s n c hop ret
        unfolding on_rows
        answer_figures h ps ts p t = figures_alike d r zones.0 zones.2 h n c hop ret ps ts p t ∙ answer_is (Zones zones.0) zones.1

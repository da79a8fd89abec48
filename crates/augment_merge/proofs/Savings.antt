-- What joins of tours save, by the links between the ends of the tours.
use Rattle.std.proofs.Common.{◌≡◌, ℕ, ◌+◌, ◌<◌, ◌≤◌, Bool, true, false, List, [], ◌∷◌, length, refl, sym, subst, ◌∙◌, arith, append-nil}
use Rattle.std.specs.Prelude.{Option, None, Some}
use Rattle.std.specs.List.{AllByRecursion}
use Rattle.std.proofs.lemmas.List.Sums.{sum_by-cons}
use Rattle.carp_base.specs.declared.edge.Task.{Task}
use Rattle.carp_base.specs.Problem.{Problem, IsValid, IsRequired, edge_at}
use Rattle.deadhead_paths.specs.Prices.{IsLeastPrice, price_of, costs_of}
use Rattle.deadhead_paths.specs.Tours.{LeastDeadhead}
use Rattle.task_tours.specs.Tours.{tour_load}
use Rattle.augment_merge.specs.declared.joins.Join.{Join}
use Rattle.augment_merge.specs.declared.outline.Outline.{Outline}
use Rattle.augment_merge.specs.Joins.{oriented_tour, joined_tour}
use Rattle.augment_merge.specs.Merging.{IsSaving, IsSavingJoin, IsBestJoin, has_tasks, nth_tour}
use Rattle.augment_merge.specs.TourLaws.{TourLaws}
use Rattle.augment_merge.specs.Outlines.{FindsBest, IsFirstOfJoins, AreDoable, IsLinkSaving, IsOutlineOf, AreOutlinesOf, IsOutlineJoin, AreBestRows, StandsInRows, nth_outline, oriented_outline, tour_starts_at}
use Rattle.augment_merge.proofs.Pairs.{oriented_is}
use Rattle.augment_merge.proofs.Rows.{best_of_all}
use Rattle.augment_merge.proofs.Turning.{deadhead_joined, deadhead_oriented, starts_oriented, ends_oriented, sum_oriented}

module _ (known : TourLaws) (p : Problem) (valid : IsValid p) where
  pub deadhead_once : (tour : List Task) (m n : ℕ) → LeastDeadhead p (price_of (costs_of p)) p.depot tour p.depot m → LeastDeadhead p (price_of (costs_of p)) p.depot tour p.depot n → m ≡ n
  deadhead_once tour m n first second =
      known.unique p (price_of (costs_of p)) (tour ∷ []) m n (m, 0, first, refl, omega arith) (n, 0, second, refl, omega arith)

  outline_oriented : (turned : Bool) (tour : List Task) (o : Outline) → IsOutlineOf p tour o → IsOutlineOf p (oriented_tour turned tour) (oriented_outline turned o)
  outline_oriented false tour o is = is
  outline_oriented true tour o is = record {
    outline = oriented_is known.symmetric p true o is.outline;
    starts = is.ends ∙ sym (starts_oriented p p.depot true tour);
    ends = is.starts ∙ sym (ends_oriented p p.depot true tour);
    loaded = is.loaded ∙ sym (sum_oriented (λ e. (edge_at p e).demand) true tour);
  }

  module _ (b c : Bool) (first second : List Task) (o o' : Outline) (is : IsOutlineOf p first o) (is' : IsOutlineOf p second o')
      (required : AllByRecursion (λ t. IsRequired p t.edge) first) (required' : AllByRecursion (λ t. IsRequired p t.edge) second) (some : has_tasks (oriented_tour c second) ≡ true) where
    linked : (link : ℕ) → IsLeastPrice p (price_of (costs_of p)) (oriented_outline b o).end (oriented_outline c o').start link →
        (k m : ℕ) → LeastDeadhead p (price_of (costs_of p)) p.depot first p.depot k → LeastDeadhead p (price_of (costs_of p)) p.depot second p.depot m →
        (n : ℕ) × LeastDeadhead p (price_of (costs_of p)) p.depot (joined_tour b c first second) p.depot n × (n + ((oriented_outline b o).home + (oriented_outline c o').out) ≡ k + m + link)
    linked link least k m least' least'' =
        let x = outline_oriented b first o is in
        let y = outline_oriented c second o' is' in
        deadhead_joined p (price_of (costs_of p)) p.depot (oriented_tour b first) (oriented_tour c second) k m (oriented_outline b o).home (oriented_outline c o').out link some
        (deadhead_oriented p (price_of (costs_of p)) known.symmetric p.depot b first k least') (deadhead_oriented p (price_of (costs_of p)) known.symmetric p.depot c second m least'')
        (subst (λ v. IsLeastPrice p (price_of (costs_of p)) v p.depot (oriented_outline b o).home) x.ends x.outline.home_least)
        (subst (λ v. IsLeastPrice p (price_of (costs_of p)) p.depot v (oriented_outline c o').out) y.starts y.outline.out_least)
        (subst (λ v. IsLeastPrice p (price_of (costs_of p)) v (tour_starts_at p p.depot (oriented_tour c second)) link) x.ends
        (subst (λ v. IsLeastPrice p (price_of (costs_of p)) (oriented_outline b o).end v link) y.starts least))

    pub saves_by_link : (saving : ℕ) → IsLinkSaving p (oriented_outline b o) (oriented_outline c o') saving → IsSaving p first second (joined_tour b c first second) saving
    saves_by_link saving saves =
        let k = known.there p valid (price_of (costs_of p)) first required in
        let m = known.there p valid (price_of (costs_of p)) second required' in
        let n = linked saves.link saves.least k.0 m.0 k.1 m.1 in
        record {
          deadhead_of_first = k.0;
          deadhead_of_second = m.0;
          deadhead_of_joined = n.0;
          first_least = k.1;
          second_least = m.1;
          joined_least = n.1;
          saved = let sum = n.2 in let saved = saves.saved in omega arith;
        }

    pub link_by_saving : (saving : ℕ) → IsSaving p first second (joined_tour b c first second) saving → IsLinkSaving p (oriented_outline b o) (oriented_outline c o') saving
    link_by_saving saving saves =
        let x = outline_oriented b first o is in
        let y = outline_oriented c second o' is' in
        let link = known.linked p valid (price_of (costs_of p)) (oriented_outline b o).end (oriented_outline c o').start x.outline.end_stands y.outline.start_stands in
        let n = linked link.0 link.1 saves.deadhead_of_first saves.deadhead_of_second saves.first_least saves.second_least in
        let same = deadhead_once (joined_tour b c first second) n.0 saves.deadhead_of_joined n.1 saves.joined_least in
        record { link = link.0; least = link.1; saved = let sum = n.2 in let saved = saves.saved in omega arith }

  -- a tour that serves has a load
  pub some_load : (tour : List Task) → AllByRecursion (λ t. IsRequired p t.edge) tour → has_tasks tour ≡ true → 1 ≤ tour_load p tour
  some_load [] required some = cc
  some_load (t ∷ ts) required some = omega (arith, sum_by-cons (λ (u : Task). (edge_at p u.edge).demand) t ts, (valid.tasks t.edge required.0).some_demand)

  some_tasks : (tour : List Task) → 1 ≤ tour_load p tour → has_tasks tour ≡ true
  some_tasks [] some = absurd (omega arith)
  some_tasks (t ∷ ts) some = refl

  nothing : LeastDeadhead p (price_of (costs_of p)) p.depot [] p.depot 0
  nothing = known.staying p (price_of (costs_of p)) p.depot

  -- with a tour that has no tasks no join saves
  none_by_first : (b c : Bool) (second : List Task) (saving : ℕ) → IsSaving p [] second (joined_tour b c [] second) saving → saving ≡ 0
  none_by_first b c second saving saves =
      let home = deadhead_once [] saves.deadhead_of_first 0 saves.first_least nothing in
      let turned = deadhead_oriented p (price_of (costs_of p)) known.symmetric p.depot c second saves.deadhead_of_second saves.second_least in
      let same = deadhead_once (oriented_tour c second) saves.deadhead_of_joined saves.deadhead_of_second (one b saves.joined_least) turned in
      let saved = saves.saved in
      omega arith
    where
      one : (x : Bool) → LeastDeadhead p (price_of (costs_of p)) p.depot (joined_tour x c [] second) p.depot saves.deadhead_of_joined → LeastDeadhead p (price_of (costs_of p)) p.depot (oriented_tour c second) p.depot saves.deadhead_of_joined
      one false least = least
      one true least = least

  none_by_second : (b c : Bool) (first : List Task) (saving : ℕ) → IsSaving p first [] (joined_tour b c first []) saving → saving ≡ 0
  none_by_second b c first saving saves =
      let home = deadhead_once [] saves.deadhead_of_second 0 saves.second_least nothing in
      let turned = deadhead_oriented p (price_of (costs_of p)) known.symmetric p.depot b first saves.deadhead_of_first saves.first_least in
      let same = deadhead_once (oriented_tour b first) saves.deadhead_of_joined saves.deadhead_of_first (one c saves.joined_least) turned in
      let saved = saves.saved in
      omega arith
    where
      one : (x : Bool) → LeastDeadhead p (price_of (costs_of p)) p.depot (joined_tour b x first []) p.depot saves.deadhead_of_joined → LeastDeadhead p (price_of (costs_of p)) p.depot (oriented_tour b first) p.depot saves.deadhead_of_joined
      one false least = subst (λ ts. LeastDeadhead p (price_of (costs_of p)) p.depot ts p.depot saves.deadhead_of_joined) (append-nil (oriented_tour b first)) least
      one true least = subst (λ ts. LeastDeadhead p (price_of (costs_of p)) p.depot ts p.depot saves.deadhead_of_joined) (append-nil (oriented_tour b first)) least

  both_used : (b c : Bool) (first second : List Task) (saving : ℕ) → 1 ≤ saving → IsSaving p first second (joined_tour b c first second) saving → (has_tasks first ≡ true) × (has_tasks second ≡ true)
  both_used b c [] second saving some saves = absurd (let none = none_by_first b c second saving saves in omega arith)
  both_used b c (t ∷ ts) [] saving some saves = absurd (let none = none_by_second b c (t ∷ ts) saving saves in omega arith)
  both_used b c (t ∷ ts) (u ∷ us) saving some saves = (refl, refl)

  some_oriented : (c : Bool) (tour : List Task) → 1 ≤ tour_load p tour → has_tasks (oriented_tour c tour) ≡ true
  some_oriented c tour some = some_tasks (oriented_tour c tour) (let same = sum_oriented (λ e. (edge_at p e).demand) c tour in omega arith)

  -- joins by tours, and by outlines
  module _ (tours : List (List Task)) (outlines : List Outline) (are : AreOutlinesOf p tours outlines) (doable : AreDoable p tours) where
    pub saving_join : (j : Join) → IsOutlineJoin p outlines j → IsSavingJoin p tours j
    saving_join j join =
        let second_in : j.second < length tours = omega (arith, join.in_range, are.one_each) in
        let first_in : j.first < length tours = omega (arith, second_in, join.order) in
        let x = are.each j.first first_in in
        let y = are.each j.second second_in in
        let used : 1 ≤ tour_load p (nth_tour tours j.second) = omega (arith, join.second_used, y.loaded) in
        record {
          order = join.order;
          in_range = second_in;
          fits = omega (arith, join.fits, x.loaded, y.loaded);
          saves = saves_by_link j.turn_first j.turn_second (nth_tour tours j.first) (nth_tour tours j.second) (nth_outline outlines j.first) (nth_outline outlines j.second) x y (doable j.first first_in).required (doable j.second second_in).required
              (some_oriented j.turn_second (nth_tour tours j.second) used) j.saving join.saves;
          some = join.some;
        }

    pub outline_join : (j : Join) → IsSavingJoin p tours j → IsOutlineJoin p outlines j
    outline_join j join =
        let first_in : j.first < length tours = omega (arith, join.in_range, join.order) in
        let x = are.each j.first first_in in
        let y = are.each j.second join.in_range in
        let both = both_used j.turn_first j.turn_second (nth_tour tours j.first) (nth_tour tours j.second) j.saving join.some join.saves in
        let first_load = some_load (nth_tour tours j.first) (doable j.first first_in).required both.0 in
        let second_load = some_load (nth_tour tours j.second) (doable j.second join.in_range).required both.1 in
        record {
          order = join.order;
          in_range = omega (arith, join.in_range, are.one_each);
          first_used = omega (arith, first_load, x.loaded);
          second_used = omega (arith, second_load, y.loaded);
          fits = omega (arith, join.fits, x.loaded, y.loaded);
          saves = link_by_saving j.turn_first j.turn_second (nth_tour tours j.first) (nth_tour tours j.second) (nth_outline outlines j.first) (nth_outline outlines j.second) x y (doable j.first first_in).required (doable j.second join.in_range).required
              (some_oriented j.turn_second (nth_tour tours j.second) second_load) j.saving join.saves;
          some = join.some;
        }

    best_is : (j : Join) → IsFirstOfJoins (IsOutlineJoin p outlines) j → IsBestJoin p tours j
    best_is j best = record { can = saving_join j best.has; first = λ other can. best.first other (outline_join other can) }

    pub chosen : (rows : List (Option Join)) (j : Join) → AreBestRows p outlines rows → FindsBest (StandsInRows rows (length rows)) (Some j) → IsOutlineJoin p outlines j × IsBestJoin p tours j
    chosen rows j best found = let first = best_of_all p outlines rows best (Some j) found in (first.has, best_is j first)

    pub none_left : (rows : List (Option Join)) → AreBestRows p outlines rows → FindsBest (StandsInRows rows (length rows)) None → (j : Join) → IsSavingJoin p tours j → ⊥
    none_left rows best none j saves = best_of_all p outlines rows best None none j (outline_join j saves)

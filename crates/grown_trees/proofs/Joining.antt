-- Nodes in blocks: where a node stands, what becomes of the list of all nodes, and the halves of a block.
use Rattle.std.proofs.Common.{◌≡◌, ℕ, suc, ◌+◌, ◌-◌, ◌≤◌, ◌<◌, cond, nat_le, List, [], ◌∷◌, ◌++◌, length, map, take, drop, get_or, set, refl, sym, ap, ◌∙◌, subst, arith, inl, inr, append_assoc, append-nil, length-append}
use Rattle.std.specs.List.{All, insert}
use Rattle.std.proofs.Math.Seq.{split_at, get_or-append_seam, set-append_seam, take-append_seam}
use Rattle.std.proofs.lemmas.Bool.{cases_lt}
use Rattle.std.proofs.lemmas.List.{take_more, drop_more, take_all, take-append-drop, take-append-le, drop-append-le, length-take-le, length-drop, map-append, get_or_append_left, get_or-append-add, get_or_default}
use Rattle.std.proofs.lemmas.List.Edits.{insert-append_right}
use Rattle.std.proofs.lemmas.List.Elements.{All-append, All-drop, All-from_recursion, All-take}
use Rattle.std.proofs.lemmas.List.Sums.{sum_by-append, count_by-le-length}
use Rattle.branch_rules.specs.declared.node.Node.{Node}
use Rattle.grown_trees.specs.Backward.{Found, read_from}
use Rattle.grown_trees.specs.Blocks.{IsRoomySpot, IsSpot, joined}
use Rattle.grown_trees.specs.Growth.{turns_in}
use Rattle.grown_trees.specs.declared.blocks.Spot.{Spot}
use Rattle.grown_trees.specs.declared.growing.GrowingNode.{GrowingNode}
use Rattle.grown_trees.proofs.Halves.{take_past, drop_past}
use Rattle.grown_trees.proofs.Skipping.{read_append}

abbrev pub Entries : Type 0
Entries = List GrowingNode

abbrev pub node_of : GrowingNode → Node
node_of entry = entry.node

pub joined_append : (xs ys : List Entries) → joined (xs ++ ys) ≡ joined xs ++ joined ys
joined_append [] ys = refl
joined_append (x ∷ xs) ys = ap (λ (zs : Entries). x ++ zs) (joined_append xs ys) ∙ sym (append_assoc x (joined xs) (joined ys))

turns_append : (cost : ℕ) (xs ys : Entries) → turns_in cost (xs ++ ys) ≡ turns_in cost xs + turns_in cost ys
turns_append cost xs ys = sum_by-append (λ (entry : GrowingNode). cond (nat_le cost entry.shows) 1 0) xs ys

turns_long : (cost : ℕ) (xs : Entries) → turns_in cost xs ≤ length xs
turns_long cost xs = count_by-le-length (λ (entry : GrowingNode). nat_le cost entry.shows) xs

-- one block more
pub joined_push : (xs : List Entries) (x : Entries) → joined (xs ++ x ∷ []) ≡ joined xs ++ x
joined_push xs x = joined_append xs (x ∷ []) ∙ ap (λ (zs : Entries). joined xs ++ zs) (append-nil x)

module _ (blocks : List Entries) (i : ℕ) (d : Entries) (less : i < length blocks) where
  pub joined_more : joined (take (i + 1) blocks) ≡ joined (take i blocks) ++ get_or blocks i d
  joined_more = ap joined (take_more blocks i d less) ∙ joined_push (take i blocks) (get_or blocks i d)

  pub joined_rest : joined (drop i blocks) ≡ get_or blocks i d ++ joined (drop (i + 1) blocks)
  joined_rest = ap joined (drop_more blocks i d less)

  pub joined_whole : joined blocks ≡ joined (take i blocks) ++ (get_or blocks i d ++ joined (drop (i + 1) blocks))
  joined_whole =
      ap joined (sym (take-append-drop i blocks)) ∙ joined_append (take i blocks) (drop i blocks) ∙ ap (λ (zs : Entries). joined (take i blocks) ++ zs) joined_rest

  pub more_long : length (joined (take (i + 1) blocks)) ≡ length (joined (take i blocks)) + length (get_or blocks i d)
  more_long = ap length joined_more ∙ length-append (joined (take i blocks)) (get_or blocks i d)

  pub rest_long : length (joined (drop i blocks)) ≡ length (get_or blocks i d) + length (joined (drop (i + 1) blocks))
  rest_long = ap length joined_rest ∙ length-append (get_or blocks i d) (joined (drop (i + 1) blocks))

  pub part_few : length (joined (take i blocks)) + length (get_or blocks i d) ≤ length (joined blocks)
  part_few =
      omega (
        arith,
        ap length joined_whole,
        length-append (joined (take i blocks)) (get_or blocks i d ++ joined (drop (i + 1) blocks)),
        length-append (get_or blocks i d) (joined (drop (i + 1) blocks)),
      )

  pub rest_few : length (get_or blocks i d) + length (joined (drop (i + 1) blocks)) ≤ length (joined blocks)
  rest_few =
      omega (
        arith,
        ap length joined_whole,
        length-append (joined (take i blocks)) (get_or blocks i d ++ joined (drop (i + 1) blocks)),
        length-append (get_or blocks i d) (joined (drop (i + 1) blocks)),
      )

  pub turns_more : (cost : ℕ) → turns_in cost (joined (take (i + 1) blocks)) ≡ turns_in cost (joined (take i blocks)) + turns_in cost (get_or blocks i d)
  turns_more cost = ap (turns_in cost) joined_more ∙ turns_append cost (joined (take i blocks)) (get_or blocks i d)

  pub turns_few : (cost : ℕ) → turns_in cost (joined (take i blocks)) + turns_in cost (get_or blocks i d) ≤ length (joined blocks)
  turns_few cost = omega (arith, part_few, turns_long cost (joined (take i blocks)), turns_long cost (get_or blocks i d))

  pub nodes_more : map node_of (joined (take (i + 1) blocks)) ≡ map node_of (joined (take i blocks)) ++ map node_of (get_or blocks i d)
  nodes_more = ap (λ (es : Entries). map node_of es) joined_more ∙ map-append node_of (joined (take i blocks)) (get_or blocks i d)

  pub read_more : (f : Found) → read_from f (map node_of (joined (drop i blocks))) ≡ read_from (read_from f (map node_of (joined (drop (i + 1) blocks)))) (map node_of (get_or blocks i d))
  read_more f =
      ap (λ (es : Entries). read_from f (map node_of es)) joined_rest
      ∙ ap (read_from f) (map-append node_of (get_or blocks i d) (joined (drop (i + 1) blocks)))
      ∙ read_append f (map node_of (get_or blocks i d)) (map node_of (joined (drop (i + 1) blocks)))

  -- a place in this block
  pub spot_here : (place inner : ℕ) → inner < length (get_or blocks i d) → place ≡ length (joined (take i blocks)) + inner → IsSpot blocks place (record { block = i; inner = inner })
  spot_here place inner inside is = record {
    before = take i blocks;
    here = get_or blocks i d;
    behind = drop (suc i) blocks;
    whole = split_at blocks i d less;
    block = sym (length-take-le i blocks (omega (arith, less)));
    inside = inside;
    place_is = is;
  }

-- a place that is behind all blocks
pub none_behind : (blocks : List Entries) (place inner n : ℕ) → place < length (joined blocks) → length blocks ≤ n → place ≡ length (joined (take n blocks)) + inner → ⊥
none_behind blocks place inner n less all is =
    let same : length (joined (take n blocks)) ≡ length (joined blocks) = ap (λ (bs : List Entries). length (joined bs)) (take_all n blocks all) in
    absurd (omega (arith, less, same, is))

-- A place in the middle of three lists.

module _ (before here behind : Entries) (i : ℕ) (less : i < length here) where
  abbrev all : Entries
  all = before ++ (here ++ behind)

  pub take_within : take (length before + i) all ≡ before ++ take i here
  take_within = take_past before (here ++ behind) i ∙ ap (λ (zs : Entries). before ++ zs) (take-append-le i here behind (omega (arith, less)))

  drop_within : drop (length before + i + 1) all ≡ drop (i + 1) here ++ behind
  drop_within =
      let place : length before + i + 1 ≡ length before + (i + 1) = omega arith in
      ap (λ (n : ℕ). drop n all) place ∙ drop_past before (here ++ behind) (i + 1) ∙ drop-append-le (i + 1) here behind (omega (arith, less))

  put_within : (news : Entries) → before ++ ((take i here ++ (news ++ drop (i + 1) here)) ++ behind) ≡ take (length before + i) all ++ (news ++ drop (length before + i + 1) all)
  put_within news =
      ap (λ (zs : Entries). before ++ zs)
      (append_assoc (take i here) (news ++ drop (i + 1) here) behind ∙ ap (λ (zs : Entries). take i here ++ zs) (append_assoc news (drop (i + 1) here) behind))
      ∙ sym (append_assoc before (take i here) (news ++ (drop (i + 1) here ++ behind)))
      ∙ ap (λ (zs : Entries). zs ++ (news ++ (drop (i + 1) here ++ behind))) (sym take_within)
      ∙ ap (λ (zs : Entries). take (length before + i) all ++ (news ++ zs)) (sym drop_within)

-- Where a node stands.

pub got_at : (before behind : List Entries) (here : Entries) (old : List Entries) (block : ℕ) → old ≡ before ++ (here ∷ behind) → block ≡ length before → (d : Entries) → get_or old block d ≡ here
got_at before behind here old block is at d =
    ap (λ (bs : List Entries). get_or bs block d) is ∙ ap (λ (n : ℕ). get_or (before ++ (here ∷ behind)) n d) at ∙ get_or-append_seam before here behind d

module _ (blocks : List Entries) (place : ℕ) (spot : Spot) (s : IsSpot blocks place spot) where
  pub block_less : spot.block < length blocks
  block_less = omega (arith, s.block, ap length s.whole, length-append s.before (s.here ∷ s.behind))

  pub block_is : (d : Entries) → get_or blocks spot.block d ≡ s.here
  block_is d = got_at s.before s.behind s.here blocks spot.block s.whole s.block d

  joined_is : joined blocks ≡ joined s.before ++ (s.here ++ joined s.behind)
  joined_is = ap joined s.whole ∙ joined_append s.before (s.here ∷ s.behind)

  here_is : (d : GrowingNode) → get_or s.here spot.inner d ≡ get_or (joined blocks) place d
  here_is d =
      sym (get_or_append_left s.here (joined s.behind) d spot.inner s.inside)
      ∙ sym (get_or-append-add (joined s.before) (s.here ++ joined s.behind) spot.inner d)
      ∙ ap (λ (n : ℕ). get_or (joined s.before ++ (s.here ++ joined s.behind)) n d) (sym s.place_is)
      ∙ ap (λ (es : Entries). get_or es place d) (sym joined_is)

  pub node_is : (x : Entries) → x ≡ s.here → (d e : GrowingNode) → get_or x spot.inner d ≡ get_or (joined blocks) place e
  node_is x is d e = ap (λ (es : Entries). get_or es spot.inner d) is ∙ get_or_default s.here spot.inner d e s.inside ∙ here_is e

  -- other nodes in the place of the node
  pub put_is : (x news : Entries) → x ≡ s.here →
      joined (set blocks spot.block (take spot.inner x ++ (news ++ drop (spot.inner + 1) x))) ≡ take place (joined blocks) ++ (news ++ drop (place + 1) (joined blocks))
  put_is x news is =
      let y = take spot.inner s.here ++ (news ++ drop (spot.inner + 1) s.here) in
      let js = joined s.before ++ (s.here ++ joined s.behind) in
      ap (λ (es : Entries). joined (set blocks spot.block (take spot.inner es ++ (news ++ drop (spot.inner + 1) es)))) is
      ∙ ap (λ (bs : List Entries). joined (set bs spot.block y)) s.whole
      ∙ ap (λ (n : ℕ). joined (set (s.before ++ (s.here ∷ s.behind)) n y)) s.block
      ∙ ap joined (set-append_seam s.before s.here s.behind y)
      ∙ joined_append s.before (y ∷ s.behind)
      ∙ put_within (joined s.before) s.here (joined s.behind) spot.inner s.inside news
      ∙ ap (λ (n : ℕ). take n js ++ (news ++ drop (n + 1) js)) (sym s.place_is)
      ∙ ap (λ (es : Entries). take place es ++ (news ++ drop (place + 1) es)) (sym joined_is)

  take_is : take place (joined blocks) ≡ joined (take spot.block blocks) ++ take spot.inner s.here
  take_is =
      let first : take spot.block blocks ≡ s.before =
      ap (λ (bs : List Entries). take spot.block bs) s.whole ∙ ap (λ (n : ℕ). take n (s.before ++ (s.here ∷ s.behind))) s.block ∙ take-append_seam s.before (s.here ∷ s.behind) in
      ap (λ (es : Entries). take place es) joined_is
      ∙ ap (λ (n : ℕ). take n (joined s.before ++ (s.here ++ joined s.behind))) s.place_is
      ∙ take_within (joined s.before) s.here (joined s.behind) spot.inner s.inside
      ∙ ap (λ (bs : List Entries). joined bs ++ take spot.inner s.here) (sym first)

  -- the nodes before the place, read backward
  pub read_before : (x : Entries) → x ≡ s.here → (f : Found) → read_from (read_from f (map node_of (take spot.inner x))) (map node_of (joined (take spot.block blocks))) ≡ read_from f (map node_of (take place (joined blocks)))
  read_before x is f =
      let first = joined (take spot.block blocks) in
      ap (λ (es : Entries). read_from (read_from f (map node_of (take spot.inner es))) (map node_of first)) is
      ∙ sym (read_append f (map node_of first) (map node_of (take spot.inner s.here)))
      ∙ ap (read_from f) (sym (map-append node_of first (take spot.inner s.here)))
      ∙ ap (λ (es : Entries). read_from f (map node_of es)) (sym take_is)

  pub before_few : length (joined (take spot.block blocks)) + spot.inner ≤ length (joined blocks)
  before_few =
      omega (
        arith,
        ap length take_is,
        length-append (joined (take spot.block blocks)) (take spot.inner s.here),
        length-take-le spot.inner s.here (omega (arith, s.inside)),
        ap length (take-append-drop place (joined blocks)),
        length-append (take place (joined blocks)) (drop place (joined blocks)),
      )

  -- The block is divided.

  module _ (news : List Entries) (full : 1022 < length s.here) (most : length s.here ≤ 1024) (is : news ≡ s.before ++ (take 512 s.here ∷ drop 512 s.here ∷ s.behind)) where
    pub divided_same : joined news ≡ joined blocks
    divided_same =
        ap joined is ∙ joined_append s.before (take 512 s.here ∷ drop 512 s.here ∷ s.behind)
        ∙ ap (λ (zs : Entries). joined s.before ++ zs) (sym (append_assoc (take 512 s.here) (drop 512 s.here) (joined s.behind)) ∙ ap (λ (zs : Entries). zs ++ joined s.behind) (take-append-drop 512 s.here))
        ∙ sym joined_is

    half_long : length (take 512 s.here) ≡ 512
    half_long = length-take-le 512 s.here (omega (arith, full))

    in_first : spot.inner < 512 → IsRoomySpot news place spot
    in_first less = record {
      spot_is = record {
        before = s.before;
        here = take 512 s.here;
        behind = drop 512 s.here ∷ s.behind;
        whole = is;
        block = s.block;
        inside = omega (arith, less, half_long);
        place_is = s.place_is;
      };
      roomy = omega (arith, half_long);
    }

    in_second : 512 ≤ spot.inner → IsRoomySpot news place (record { block = spot.block + 1; inner = spot.inner - 512 })
    in_second past = record {
      spot_is = record {
        before = s.before ++ take 512 s.here ∷ [];
        here = drop 512 s.here;
        behind = s.behind;
        whole = is ∙ sym (append_assoc s.before (take 512 s.here ∷ []) (drop 512 s.here ∷ s.behind));
        block = omega (arith, s.block, length-append s.before (take 512 s.here ∷ []));
        inside = omega (arith, s.inside, past, length-drop 512 s.here);
        place_is = omega (arith, s.place_is, past, ap length (joined_push s.before (take 512 s.here)), length-append (joined s.before) (take 512 s.here), half_long);
      };
      roomy = omega (arith, most, full, length-drop 512 s.here);
    }

    pub spot_divided : (after : Spot) → (spot.inner < 512 → after ≡ spot) → (512 ≤ spot.inner → after ≡ record { block = spot.block + 1; inner = spot.inner - 512 }) → IsRoomySpot news place after
    spot_divided after first second = elim (cases_lt spot.inner 512) [
      | inl less ↦ subst (λ (t : Spot). IsRoomySpot news place t) (sym (first less)) (in_first less)
      | inr past ↦ subst (λ (t : Spot). IsRoomySpot news place t) (sym (second past)) (in_second past)
    ]

-- A block gives way to two others.

module _ (before behind : List Entries) (here upper lower : Entries) where
  inserted : insert (before ++ (here ∷ behind)) (length before + 1) upper ≡ before ++ (here ∷ upper ∷ behind)
  inserted =
      let one : length before + 1 - length before ≡ 1 = omega arith in
      insert-append_right before (here ∷ behind) (length before) (length before + 1) upper refl (omega arith)
      ∙ ap (λ (n : ℕ). before ++ insert (here ∷ behind) n upper) one

  pub inserted_at : (old : List Entries) (block : ℕ) → old ≡ before ++ (here ∷ behind) → block ≡ length before → insert old (block + 1) upper ≡ before ++ (here ∷ upper ∷ behind)
  inserted_at old block is at =
      ap (λ (bs : List Entries). insert bs (block + 1) upper) is ∙ ap (λ (n : ℕ). insert (before ++ (here ∷ behind)) (n + 1) upper) at ∙ inserted

  pub set_at : (now : List Entries) (block : ℕ) → now ≡ before ++ (here ∷ upper ∷ behind) → block ≡ length before → set now block lower ≡ before ++ (lower ∷ upper ∷ behind)
  set_at now block is at =
      ap (λ (bs : List Entries). set bs block lower) is ∙ ap (λ (n : ℕ). set (before ++ (here ∷ upper ∷ behind)) n lower) at
      ∙ set-append_seam before here (upper ∷ behind) lower

-- What is so of all nodes is so of all after a split.
pub all_split : (P : GrowingNode → Type 0) (xs : Entries) (n m : ℕ) (a b c : GrowingNode) → All P xs → P a → P b → P c → All P (take n xs ++ ((a ∷ b ∷ c ∷ []) ++ drop m xs))
all_split P xs n m a b c all first second third =
    All-append P (take n xs) ((a ∷ b ∷ c ∷ []) ++ drop m xs) (All-take P n xs all)
    (All-append P (a ∷ b ∷ c ∷ []) (drop m xs) (All-from_recursion P (a ∷ b ∷ c ∷ []) (first, (second, (third, tt)))) (All-drop P m xs all))

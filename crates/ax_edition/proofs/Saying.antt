-- What a map says, after more paths.
use Rattle.std.proofs.Common.{◌≡◌, ℕ, ◌+◌, ◌<◌, ◌≤◌, cond, List, [], ◌∷◌, ◌++◌, length, map, take, get_or, Option, Some, None, option_map, option_and_then, refl, sym, ◌∙◌, ap, subst, append_assoc, append-nil}
use Rattle.std.proofs.lemmas.List.{map-append, take_more, take_all}
use Rattle.ax_format.specs.Plain.{slot_tree, slots_tree}
use Rattle.ax_format.specs.Tree.{KindTree, fixed, extended, counted, by_fx, explicit, compound, SlotTree, SlotsTree, spare_slot, subitem, slots_of}
use Rattle.ax_format.specs.declared.kind.Slot.{Slot}
use Rattle.ax_format.specs.declared.spec.Item.{Item}
use Rattle.std.specs.Borrow.{Bor}
use Rattle.ax_edition.specs.Index.{FindsBelow}
use Rattle.ax_relation.specs.Below.{slot_below}
use Rattle.ax_edition.specs.Known.{kind_found, kind_below, known_kind, known_slot, known_slots}
use Rattle.ax_relation.specs.Known.{said, said_of, sharing_of, Says, Knows}
use Rattle.ax_relation.specs.declared.known.Sharing.{Sharing}
use Rattle.ax_edition.specs.SlotItems.{item_slot, items_tree}
use Rattle.ax_edition.specs.declared.index.Index.{Index}
use Rattle.ax_relation.specs.declared.known.Known.{Known}
use Rattle.ax_relation.specs.Fates.{is_path}

said_append : (path : List (List ℕ)) (xs ys : List (List (List ℕ) × Sharing)) (o : Option Sharing) → said_of path (xs ++ ys) o ≡ said_of path ys (said_of path xs o)
said_append path [] ys o = refl
said_append path (x ∷ xs) ys o = said_append path xs ys (cond (is_path path x.0) (Some x.1) o)

pub says_none : (a : Known) → Says [] a a
says_none a = record { says = λ path. refl }

pub says_more : (xs ys : List (List (List ℕ) × Sharing)) (a b c : Known) → Says xs a b → Says ys b c → Says (xs ++ ys) a c
says_more xs ys a b c f g = record { says = λ path. g.says path ∙ ap (said_of path ys) (f.says path) ∙ sym (said_append path xs ys (said a path)) }

-- ---- kinds

kinds_below : (name : List ℕ) (new : Option KindTree) → option_map (λ s. s.1) (option_and_then (slot_below name) new) ≡ option_and_then (kind_below name) new
kinds_below name None = refl
kinds_below name (Some k) = refl

pub compound_says : (names : List (List ℕ)) (k : KindTree) (ss : SlotsTree) (new : Option KindTree) (index : Index) (shared : Sharing) (a b c : Known) → k ≡ compound ss → FindsBelow new index → shared ≡ sharing_of (Some k) new
    → Says ((names, shared) ∷ []) a b → Says (known_slots names ss (kind_found index)) b c → Says (known_kind names k new) a c
compound_says names k ss new index shared a b c is l s f g =
    let P : KindTree → Type 0 = λ x. Says (known_kind names x new) a c in
    let Q : Sharing → Type 0 = λ x. Says ((names, x) ∷ known_slots names ss (λ name. option_and_then (kind_below name) new)) a c in
    let R : (List ℕ → Option KindTree) → Type 0 = λ rule. Says (known_slots names ss rule) b c in
    let rules : kind_found index ≡ (λ name. option_and_then (kind_below name) new) = λ i name. (ap (option_map (λ s. s.1)) (l.finds name) ∙ kinds_below name new) i in
    let e = s ∙ ap (λ x. sharing_of (Some x) new) is in
    subst P (sym is) (subst Q e (says_more ((names, shared) ∷ []) (known_slots names ss (λ name. option_and_then (kind_below name) new)) a b c f (subst R rules g)))

pub leaf_says : (names : List (List ℕ)) (k : KindTree) (new : Option KindTree) (shared : Sharing) (a b : Known) → ((ss : SlotsTree) → k ≡ compound ss → ⊥) → shared ≡ sharing_of (Some k) new
    → Says ((names, shared) ∷ []) a b → Says (known_kind names k new) a b
leaf_says names k new shared a b not s f =
    let Q : Sharing → Type 0 = λ x. Says ((names, x) ∷ []) a b in single k not (subst Q s f)
  where
    single : (k : KindTree) → ((ss : SlotsTree) → k ≡ compound ss → ⊥) → Says ((names, sharing_of (Some k) new) ∷ []) a b → Says (known_kind names k new) a b
    single (compound ss) not h = absurd (not ss refl)
    single (fixed f) not h = h
    single (extended last ps) not h = h
    single (counted size k) not h = h
    single (by_fx f) not h = h
    single explicit not h = h

pub ruleset kinds = (compound_says, leaf_says)

-- ---- one slot

pub named_says : (names below : List (List ℕ)) (name : List ℕ) (k : KindTree) (inner new : Option KindTree) (a b : Known) → below ≡ names ++ name ∷ [] → inner ≡ new → Says (known_kind below k inner) a b
    → Says (known_kind (names ++ name ∷ []) k new) a b
named_says names below name k inner new a b l i h =
    let P : List (List ℕ) → Type 0 = λ x. Says (known_kind x k new) a b in
    let Q : Option KindTree → Type 0 = λ x. Says (known_kind below k x) a b in subst P l (subst Q i h)

pub spare_says : (names : List (List ℕ)) (s : SlotTree) (rule : List ℕ → Option KindTree) (a : Known) → s ≡ spare_slot → Says (known_slot names s rule) a a
spare_says names s rule a is =
    let P : SlotTree → Type 0 = λ x. Says (known_slot names x rule) a a in subst P (sym is) (says_none a)

pub sub_says : (names : List (List ℕ)) (name : List ℕ) (k : KindTree) (s : SlotTree) (rule : List ℕ → Option KindTree) (a b : Known) → s ≡ subitem name k → Says (known_kind (names ++ name ∷ []) k (rule name)) a b
    → Says (known_slot names s rule) a b
sub_says names name k s rule a b is h =
    let P : SlotTree → Type 0 = λ x. Says (known_slot names x rule) a b in subst P (sym is) h

pub ruleset one_slot = (spare_says, sub_says)

-- ---- slots

slots_append : (names : List (List ℕ)) (xs ys : List SlotTree) (rule : List ℕ → Option KindTree) → known_slots names (slots_of (xs ++ ys)) rule ≡ known_slots names (slots_of xs) rule ++ known_slots names (slots_of ys) rule
slots_append names [] ys rule = refl
slots_append names (spare_slot ∷ xs) ys rule = slots_append names xs ys rule
slots_append names (subitem name k ∷ xs) ys rule =
    let first = known_kind (names ++ name ∷ []) k (rule name) in
    ap (λ l. first ++ l) (slots_append names xs ys rule) ∙ sym (append_assoc first (known_slots names (slots_of xs) rule) (known_slots names (slots_of ys) rule))

last_slot : (names : List (List ℕ)) (s : SlotTree) (rule : List ℕ → Option KindTree) → known_slot names s rule ≡ known_slots names (slots_of (s ∷ [])) rule
last_slot names spare_slot rule = refl
last_slot names (subitem name k) rule = sym (append-nil (known_kind (names ++ name ∷ []) k (rule name)))

-- the pairs of one slot more
module _ {A : Type 0} (tree : A → SlotTree) where
  one_more : (names : List (List ℕ)) (i : ℕ) (ss : List A) (s : A) (rule : List ℕ → Option KindTree) → i < length ss → s ≡ get_or ss i s
      → known_slots names (slots_of (map tree (take i ss))) rule ++ known_slot names (tree s) rule ≡ known_slots names (slots_of (map tree (take (i + 1) ss))) rule
  one_more names i ss s rule within is =
      ap (λ l. known_slots names (slots_of (map tree (take i ss))) rule ++ l) (last_slot names (tree s) rule) ∙ sym (slots_append names (map tree (take i ss)) (tree s ∷ []) rule)
      ∙ ap (λ l. known_slots names (slots_of l) rule) (sym (map-append tree (take i ss) (s ∷ []))) ∙ ap (λ l. known_slots names (slots_of (map tree l)) rule) (sym taken)
    where
      taken : take (i + 1) ss ≡ take i ss ++ s ∷ []
      taken = take_more ss i s within ∙ ap (λ x. take i ss ++ x ∷ []) (sym is)

pub slots_begin : (names : List (List ℕ)) (ss : List Slot) (rule : List ℕ → Option KindTree) (a : Known) → Says (known_slots names (slots_tree (take 0 ss)) rule) a a
slots_begin names ss rule a = says_none a

pub slots_step : (names : List (List ℕ)) (i : ℕ) (ss : List Slot) (s : Slot) (rule : List ℕ → Option KindTree) (a b c : Known) → i < length ss → s ≡ get_or ss i s
    → Says (known_slots names (slots_tree (take i ss)) rule) a b → Says (known_slot names (slot_tree s) rule) b c → Says (known_slots names (slots_tree (take (i + 1) ss)) rule) a c
slots_step names i ss s rule a b c within is f g =
    let P : List (List (List ℕ) × Sharing) → Type 0 = λ x. Says x a c in
    subst P (one_more slot_tree names i ss s rule within is) (says_more (known_slots names (slots_tree (take i ss)) rule) (known_slot names (slot_tree s) rule) a b c f g)

pub slots_end : (names : List (List ℕ)) (i : ℕ) (ss : List Slot) (rule : List ℕ → Option KindTree) (a b : Known) → length ss ≤ i → Says (known_slots names (slots_tree (take i ss)) rule) a b
    → Says (known_slots names (slots_tree ss) rule) a b
slots_end names i ss rule a b past h =
    let P : List Slot → Type 0 = λ x. Says (known_slots names (slots_tree x) rule) a b in subst P (take_all i ss past) h

pub ruleset slots = (slots_begin, slots_step, slots_end)

-- ---- items

pub items_begin : (items : List (Option (Bor Item))) (rule : List ℕ → Option KindTree) (a : Known) → ((path : List (List ℕ)) → said a path ≡ None) → Knows (known_slots [] (items_tree (take 0 items)) rule) a
items_begin items rule a none = record { knows = none }

pub items_step : (i : ℕ) (items : List (Option (Bor Item))) (item : Option (Bor Item)) (rule : List ℕ → Option KindTree) (b c : Known) → i < length items → item ≡ get_or items i item
    → Knows (known_slots [] (items_tree (take i items)) rule) b → Says (known_slot [] (item_slot item) rule) b c → Knows (known_slots [] (items_tree (take (i + 1) items)) rule) c
items_step i items item rule b c within is f g =
    let P : List (List (List ℕ) × Sharing) → Type 0 = λ x. Knows x c in
    let xs = known_slots [] (items_tree (take i items)) rule in
    let ys = known_slot [] (item_slot item) rule in
    subst P (one_more item_slot [] i items item rule within is) (record { knows = λ path. g.says path ∙ ap (said_of path ys) (f.knows path) ∙ sym (said_append path xs ys None) })

pub items_end : (i : ℕ) (items : List (Option (Bor Item))) (rule : List ℕ → Option KindTree) (a : Known) → length items ≤ i → Knows (known_slots [] (items_tree (take i items)) rule) a → Knows (known_slots [] (items_tree items) rule) a
items_end i items rule a past h =
    let P : List (Option (Bor Item)) → Type 0 = λ x. Knows (known_slots [] (items_tree x) rule) a in subst P (take_all i items past) h

pub ruleset items = (items_begin, items_step, items_end)

-- The test of sameness holds exactly for the same kinds, and the same kinds have the same values.
use Rattle.std.proofs.Common.{◌≡◌, ℕ, ◌==◌, Bool, true, false, ◌&&◌, bytes_eq, List, [], ◌∷◌, map, refl, sym, ◌∙◌, ap}
use Rattle.std.proofs.lemmas.Bool.{eqb-true, eq-eqb}
use Rattle.std.proofs.lemmas.Slice.Eq.{bytes_eq-Decides}
use Rattle.ax_format.specs.Same.{emptied_content, emptied_fixed, emptied_members, emptied, emptied_slots, is_same_sign, is_same_content, is_same_fixed, are_same_members, are_same_parts, is_same_last, is_same_counter, is_same, are_same_slots}
use Rattle.ax_format.specs.Tree.{FixedTree, element, group, MembersTree, no_members, member_and, named, spare, KindTree, fixed, extended, counted, by_fx, explicit, compound, SlotsTree, no_slots, slot_and, spare_slot, subitem}
use Rattle.ax_format.specs.declared.content.Content.TheVariants.{Raw, Table, Ascii, Icao, Octal, Integer, Quantity}
use Rattle.ax_format.specs.declared.content.Content.{Content}
use Rattle.ax_format.specs.declared.content.Scale.{Scale}
use Rattle.ax_format.specs.declared.content.Sign.TheVariants.{Unsigned, Signed}
use Rattle.ax_format.specs.declared.content.Sign.{Sign}
use Rattle.ax_format.specs.declared.kind.Counter.TheVariants.{One, Two}
use Rattle.ax_format.specs.declared.kind.Counter.{Counter}
use Rattle.ax_format.specs.declared.kind.LastPart.TheVariants.{WithFx, WithoutFx}
use Rattle.ax_format.specs.declared.kind.LastPart.{LastPart}

pub both : (a b : Bool) → (a && b) ≡ true → (a ≡ true) × (b ≡ true)
both true b e = (refl, e)
both false b e = cc

pub bytes_same : (a b : List ℕ) → bytes_eq a b ≡ true → a ≡ b
bytes_same a b e = (bytes_eq-Decides a b).0 e

sign_is : (s t : Sign) → is_same_sign s t ≡ true → s ≡ t
sign_is Unsigned Unsigned e = refl
sign_is Signed Signed e = refl
sign_is Unsigned Signed e = cc
sign_is Signed Unsigned e = cc

scale_is : (s t : Scale) → s.sign ≡ t.sign → s.num ≡ t.num → s.den ≡ t.den → s.unit ≡ t.unit → s ≡ t
scale_is s t a b c d = λ i. record { sign = a i; num = b i; den = c i; unit = d i }

content_is : (c d : Content) → is_same_content c d ≡ true → emptied_content c ≡ emptied_content d
content_is Raw Raw e = refl
content_is (Table s) (Table t) e = refl
content_is Ascii Ascii e = refl
content_is Icao Icao e = refl
content_is Octal Octal e = refl
content_is (Integer s) (Integer t) e = ap Integer (sign_is s t e)
content_is (Quantity s) (Quantity t) e =
    let p = both (is_same_sign s.sign t.sign) _ e in
    let q = both (s.num == t.num) _ p.1 in
    let r = both (s.den == t.den) _ q.1 in
    ap Quantity (scale_is s t (sign_is s.sign t.sign p.0) (eqb-true s.num t.num q.0) (eqb-true s.den t.den r.0) (bytes_same s.unit t.unit r.1))
content_is _ _ e = cc

mutual
  fixed_is : (f g : FixedTree) → is_same_fixed f g ≡ true → emptied_fixed f ≡ emptied_fixed g
  fixed_is (element w c) (element u d) e =
      let p = both (w == u) (is_same_content c d) e in
      let a = eqb-true w u p.0 in
      let b = content_is c d p.1 in λ i. element (a i) (b i)
  fixed_is (group ms) (group ns) e = ap group (members_are ms ns e)
  fixed_is (element w c) (group ns) e = cc
  fixed_is (group ms) (element u d) e = cc

  pub members_are : (ms ns : MembersTree) → are_same_members ms ns ≡ true → emptied_members ms ≡ emptied_members ns
  members_are no_members no_members e = refl
  members_are (member_and (named name f) ms) (member_and (named other g) ns) e =
      let p = both (bytes_eq name other && is_same_fixed f g) (are_same_members ms ns) e in
      let q = both (bytes_eq name other) (is_same_fixed f g) p.0 in
      let a = bytes_same name other q.0 in
      let b = fixed_is f g q.1 in
      let c = members_are ms ns p.1 in λ i. member_and (named (a i) (b i)) (c i)
  members_are (member_and (spare w) ms) (member_and (spare u) ns) e =
      let p = both (w == u) (are_same_members ms ns) e in
      let a = eqb-true w u p.0 in
      let c = members_are ms ns p.1 in λ i. member_and (spare (a i)) (c i)
  members_are _ _ e = cc

parts_are : (ps qs : List MembersTree) → are_same_parts ps qs ≡ true → map emptied_members ps ≡ map emptied_members qs
parts_are [] [] e = refl
parts_are (p ∷ ps) (q ∷ qs) e =
    let h = both (are_same_members p q) (are_same_parts ps qs) e in
    let a = members_are p q h.0 in
    let b = parts_are ps qs h.1 in λ i. a i ∷ b i
parts_are _ _ e = cc

last_is : (l m : LastPart) → is_same_last l m ≡ true → l ≡ m
last_is WithFx WithFx e = refl
last_is WithoutFx WithoutFx e = refl
last_is WithFx WithoutFx e = cc
last_is WithoutFx WithFx e = cc

counter_is : (c d : Counter) → is_same_counter c d ≡ true → c ≡ d
counter_is One One e = refl
counter_is Two Two e = refl
counter_is One Two e = cc
counter_is Two One e = cc

mutual
  pub same_kinds : (k l : KindTree) → is_same k l ≡ true → emptied k ≡ emptied l
  same_kinds (fixed f) (fixed g) e = ap fixed (fixed_is f g e)
  same_kinds (extended last ps) (extended other qs) e =
      let p = both (is_same_last last other) (are_same_parts ps qs) e in
      let a = last_is last other p.0 in
      let b = parts_are ps qs p.1 in λ i. extended (a i) (b i)
  same_kinds (counted size k) (counted other l) e =
      let p = both (is_same_counter size other) (is_same k l) e in
      let a = counter_is size other p.0 in
      let b = same_kinds k l p.1 in λ i. counted (a i) (b i)
  same_kinds (by_fx f) (by_fx g) e = ap by_fx (fixed_is f g e)
  same_kinds explicit explicit e = refl
  same_kinds (compound ss) (compound ts) e = ap compound (same_slots ss ts e)
  same_kinds _ _ e = cc

  same_slots : (ss ts : SlotsTree) → are_same_slots ss ts ≡ true → emptied_slots ss ≡ emptied_slots ts
  same_slots no_slots no_slots e = refl
  same_slots (slot_and spare_slot ss) (slot_and spare_slot ts) e = ap (slot_and spare_slot) (same_slots ss ts e)
  same_slots (slot_and (subitem name k) ss) (slot_and (subitem other l) ts) e =
      let p = both (bytes_eq name other && is_same k l) (are_same_slots ss ts) e in
      let q = both (bytes_eq name other) (is_same k l) p.0 in
      let a = bytes_same name other q.0 in
      let b = same_kinds k l q.1 in
      let c = same_slots ss ts p.1 in λ i. slot_and (subitem (a i) (b i)) (c i)
  same_slots _ _ e = cc

-- ---- the test doesn't see tables

content_test : (c d : Content) → is_same_content c d ≡ is_same_content (emptied_content c) (emptied_content d)
content_test Raw d = content_test_raw d
  where
    content_test_raw : (d : Content) → is_same_content Raw d ≡ is_same_content Raw (emptied_content d)
    content_test_raw (Table t) = refl
    content_test_raw _ = refl
content_test c (Table t) = table_last c
  where
    table_last : (c : Content) → is_same_content c (Table t) ≡ is_same_content (emptied_content c) (Table [])
    table_last (Table s) = refl
    table_last _ = refl
content_test (Table s) _ = refl
content_test _ _ = refl

mutual
  fixed_test : (f g : FixedTree) → is_same_fixed f g ≡ is_same_fixed (emptied_fixed f) (emptied_fixed g)
  fixed_test (element w c) (element u d) = ap (λ b. (w == u) && b) (content_test c d)
  fixed_test (group ms) (group ns) = members_test ms ns
  fixed_test (element w c) (group ns) = refl
  fixed_test (group ms) (element u d) = refl

  members_test : (ms ns : MembersTree) → are_same_members ms ns ≡ are_same_members (emptied_members ms) (emptied_members ns)
  members_test no_members no_members = refl
  members_test (member_and (named name f) ms) (member_and (named other g) ns) = λ i. (bytes_eq name other && fixed_test f g i) && members_test ms ns i
  members_test (member_and (spare w) ms) (member_and (spare u) ns) = λ i. (w == u) && members_test ms ns i
  members_test (member_and (named name f) ms) (member_and (spare u) ns) = refl
  members_test (member_and (spare w) ms) (member_and (named other g) ns) = refl
  members_test no_members (member_and (named other g) ns) = refl
  members_test no_members (member_and (spare u) ns) = refl
  members_test (member_and (named name f) ms) no_members = refl
  members_test (member_and (spare w) ms) no_members = refl

parts_test : (ps qs : List MembersTree) → are_same_parts ps qs ≡ are_same_parts (map emptied_members ps) (map emptied_members qs)
parts_test [] [] = refl
parts_test (p ∷ ps) (q ∷ qs) = λ i. members_test p q i && parts_test ps qs i
parts_test [] (q ∷ qs) = refl
parts_test (p ∷ ps) [] = refl

mutual
  kind_test : (k l : KindTree) → is_same k l ≡ is_same (emptied k) (emptied l)
  kind_test (fixed f) (fixed g) = fixed_test f g
  kind_test (extended last ps) (extended other qs) = ap (λ b. is_same_last last other && b) (parts_test ps qs)
  kind_test (counted size k) (counted other l) = ap (λ b. is_same_counter size other && b) (kind_test k l)
  kind_test (by_fx f) (by_fx g) = fixed_test f g
  kind_test explicit explicit = refl
  kind_test (compound ss) (compound ts) = slots_test ss ts
  kind_test _ _ = refl

  slots_test : (ss ts : SlotsTree) → are_same_slots ss ts ≡ are_same_slots (emptied_slots ss) (emptied_slots ts)
  slots_test no_slots no_slots = refl
  slots_test (slot_and spare_slot ss) (slot_and spare_slot ts) = slots_test ss ts
  slots_test (slot_and (subitem name k) ss) (slot_and (subitem other l) ts) = λ i. (bytes_eq name other && kind_test k l i) && slots_test ss ts i
  slots_test (slot_and spare_slot ss) (slot_and (subitem other l) ts) = refl
  slots_test (slot_and (subitem name k) ss) (slot_and spare_slot ts) = refl
  slots_test no_slots (slot_and spare_slot ts) = refl
  slots_test no_slots (slot_and (subitem other l) ts) = refl
  slots_test (slot_and spare_slot ss) no_slots = refl
  slots_test (slot_and (subitem name k) ss) no_slots = refl

-- ---- the test holds of a kind and itself

own_bytes : (a : List ℕ) → bytes_eq a a ≡ true
own_bytes a = (bytes_eq-Decides a a).1 refl

own_number : (n : ℕ) → (n == n) ≡ true
own_number n = eq-eqb n n refl

own_sign : (s : Sign) → is_same_sign s s ≡ true
own_sign Unsigned = refl
own_sign Signed = refl

own_content : (c : Content) → is_same_content c c ≡ true
own_content (Integer s) = own_sign s
own_content (Quantity s) = λ i. own_sign s.sign i && (own_number s.num i && (own_number s.den i && own_bytes s.unit i))
own_content _ = refl

mutual
  own_fixed : (f : FixedTree) → is_same_fixed f f ≡ true
  own_fixed (element w c) = λ i. own_number w i && own_content c i
  own_fixed (group ms) = own_members ms

  own_members : (ms : MembersTree) → are_same_members ms ms ≡ true
  own_members no_members = refl
  own_members (member_and (named name f) ms) = λ i. (own_bytes name i && own_fixed f i) && own_members ms i
  own_members (member_and (spare w) ms) = λ i. own_number w i && own_members ms i

own_parts : (ps : List MembersTree) → are_same_parts ps ps ≡ true
own_parts [] = refl
own_parts (p ∷ ps) = λ i. own_members p i && own_parts ps i

own_last : (last : LastPart) → is_same_last last last ≡ true
own_last WithFx = refl
own_last WithoutFx = refl

own_counter : (size : Counter) → is_same_counter size size ≡ true
own_counter One = refl
own_counter Two = refl

mutual
  own_kind : (k : KindTree) → is_same k k ≡ true
  own_kind (fixed f) = own_fixed f
  own_kind (extended last ps) = λ i. own_last last i && own_parts ps i
  own_kind (counted size k) = λ i. own_counter size i && own_kind k i
  own_kind (by_fx f) = own_fixed f
  own_kind explicit = refl
  own_kind (compound ss) = own_slots ss

  own_slots : (ss : SlotsTree) → are_same_slots ss ss ≡ true
  own_slots no_slots = refl
  own_slots (slot_and spare_slot ss) = own_slots ss
  own_slots (slot_and (subitem name k) ss) = λ i. (own_bytes name i && own_kind k i) && own_slots ss i

pub members_same : (ms ns : MembersTree) → emptied_members ms ≡ emptied_members ns → are_same_members ms ns ≡ true
members_same ms ns e = members_test ms ns ∙ ap (λ x. are_same_members (emptied_members ms) x) (sym e) ∙ own_members (emptied_members ms)

pub kinds_same : (k l : KindTree) → emptied k ≡ emptied l → is_same k l ≡ true
kinds_same k l e = kind_test k l ∙ ap (λ x. is_same (emptied k) x) (sym e) ∙ own_kind (emptied k)

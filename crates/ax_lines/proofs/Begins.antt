-- Lines at the front of an input, one line after another.
use Rattle.std.proofs.Common.{◌≡◌, ℕ, ◌+◌, ◌≤◌, List, [], ◌∷◌, ◌++◌, Option, Some, None, length, refl, sym, ◌∙◌, ap, subst, append_assoc}
use Rattle.ax_lines.specs.Lined.{LinedEnd, line, end, IsNextLine, Lined}
use Rattle.ax_lines.specs.Runs.{BeginsWith, IsLeftOf}
use Rattle.ax_endpoints.specs.Told.{with_front, IsAtEnd}

-- a line more
pub begins_snoc : (line_limit limit before : ℕ) (octets : List ℕ) (lines : List (List ℕ)) (past : ℕ) (rest one after : List ℕ) (taken : ℕ) → BeginsWith line_limit limit before octets lines past rest → IsNextLine line_limit limit past rest (line one after) → length rest ≡ taken + length after
    → BeginsWith line_limit limit before octets (lines ++ (one ∷ [])) (past + taken) after
begins_snoc line_limit limit before octets [] past rest one after taken (at, same) next count =
    let next' : IsNextLine line_limit limit before octets (line one after) = subst (λ n. IsNextLine line_limit limit n octets (line one after)) (sym at) (subst (λ l. IsNextLine line_limit limit past l (line one after)) (sym same) next) in
    (after, taken, next', ap length same ∙ count, (ap (λ n. n + taken) at, refl))
begins_snoc line_limit limit before octets (first ∷ lines) past rest one after taken (mid, n, first_next, counted, more) next count =
    (mid, n, first_next, counted, begins_snoc line_limit limit (before + n) mid lines past rest one after taken more next count)

-- the end after them
pub begins_end : (line_limit limit before : ℕ) (octets : List ℕ) (lines : List (List ℕ)) (past : ℕ) (rest : List ℕ) (e : LinedEnd) → BeginsWith line_limit limit before octets lines past rest → IsNextLine line_limit limit past rest (end e) → Lined line_limit limit before octets lines e
begins_end line_limit limit before octets [] past rest e (at, same) next =
    subst (λ n. IsNextLine line_limit limit n octets (end e)) (sym at) (subst (λ l. IsNextLine line_limit limit past l (end e)) (sym same) next)
begins_end line_limit limit before octets (first ∷ lines) past rest e (mid, n, first_next, counted, more) next =
    (mid, n, first_next, counted, begins_end line_limit limit (before + n) mid lines past rest e more next)

pub record BeginsToEnd (line_limit limit before : ℕ) (octets : List ℕ) (lines : List (List ℕ)) (e : LinedEnd) : Type 0 where
  pub past : ℕ
  pub rest : List ℕ
  pub begins : BeginsWith line_limit limit before octets lines past rest
  pub ends : IsNextLine line_limit limit past rest (end e)

pub lined_begins : (line_limit limit before : ℕ) (octets : List ℕ) (lines : List (List ℕ)) (e : LinedEnd) → Lined line_limit limit before octets lines e → BeginsToEnd line_limit limit before octets lines e
lined_begins line_limit limit before octets [] e h = record { past = before; rest = octets; begins = (refl, refl); ends = h }
lined_begins line_limit limit before octets (one ∷ lines) e (after, taken, next, count, more) =
    let b = lined_begins line_limit limit (before + taken) after lines e more in
    record { past = b.past; rest = b.rest; begins = (after, taken, next, count, b.begins); ends = b.ends }

-- ---- what is left is the last of the octets

-- the octets held are in front of those that are left
pub left_of_ahead : (most : ℕ) (held rest : List ℕ) (left : Option (List ℕ)) → length held ≤ most → with_front held left ≡ Some rest → IsLeftOf most rest left
left_of_ahead most held rest None near is = absurd (let e : ◌≡◌ {A = Option (List ℕ)} None (Some rest) = is in cc)
left_of_ahead most held rest (Some x) near is = record { front = held; rest = x; near = near; split = (let e : ◌≡◌ {A = Option (List ℕ)} (Some (held ++ x)) (Some rest) = is in cc); left = refl }

-- these are in front of those that are left
pub record IsPartOf (octets front : List ℕ) (left : Option (List ℕ)) : Type 0 where
  pub after : List ℕ
  pub split : octets ≡ front ++ after
  pub left_is : left ≡ Some after

pub part_of_taken : (held taken rest : List ℕ) (left left' : Option (List ℕ)) → with_front held left ≡ Some rest → left ≡ with_front taken left' → IsPartOf rest (held ++ taken) left'
part_of_taken held taken rest left None is gives = absurd (let e : ◌≡◌ {A = Option (List ℕ)} None (Some rest) = ap (with_front held) (sym gives) ∙ is in cc)
part_of_taken held taken rest left (Some x) is gives =
    let e : ◌≡◌ {A = Option (List ℕ)} (Some (held ++ (taken ++ x))) (Some rest) = ap (with_front held) (sym gives) ∙ is in
    let f : rest ≡ held ++ (taken ++ x) = cc in
    record { after = x; split = f ∙ sym (append_assoc held taken x); left_is = refl }

pub left_of_part : (most : ℕ) (octets front : List ℕ) (left : Option (List ℕ)) → length front ≤ most → IsPartOf octets front left → IsLeftOf most octets left
left_of_part most octets front left near p = record { front = front; rest = p.after; near = near; split = p.split; left = p.left_is }

pub none_left : (most : ℕ) (octets : List ℕ) (left : Option (List ℕ)) → IsLeftOf most octets left → IsAtEnd left → left ≡ Some []
none_left most octets left l at_end = let e : l.rest ≡ [] = subst IsAtEnd l.left at_end in l.left ∙ ap Some e

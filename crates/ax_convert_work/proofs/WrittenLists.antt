-- The texts of a list, written one after another.
use Rattle.std.proofs.Common.{◌≡◌, ℕ, ◌+◌, ◌<◌, ◌≤◌, List, [], ◌++◌, flat_map, Option, length, drop, get_or, refl, sym, ◌∙◌, ap, append_assoc, append-nil, arith, Result, Ok, Err, IsErr}
use Rattle.std.proofs.lemmas.List.{drop_all}
use Rattle.ax_format.proofs.Namings.{from_place}
use Rattle.ax_endpoints.proofs.Pieces.{change, written_then, failed_before, same_text, nothing_written}
use Rattle.ax_endpoints.specs.Changes.{Wrote}
use Rattle.ax_endpoints.specs.declared.sinks.SinkFailed.{SinkFailed}

module _ {A : Type 0} (text : A → List ℕ) (list : List A) where
  -- the texts before place i were written
  pub record WrittenTo (h h' : Option (List ℕ)) (f f' : ℕ) (i : ℕ) : Type 0 where
    pub front : List ℕ
    pub split : flat_map text list ≡ front ++ flat_map text (drop i list)
    pub wrote : Wrote (change h h' f f') (Ok tt) front

  pub none_written : (h : Option (List ℕ)) (f : ℕ) → WrittenTo h h f f 0
  none_written h f = record { front = []; split = refl; wrote = nothing_written h f tt }

  module _ (h h' h'' : Option (List ℕ)) (f f' f'' i : ℕ) (items : List A) (same : items ≡ list) (one : A) (within : i < length items) (is : one ≡ get_or items i one) (w : WrittenTo h h' f f' i) where
    in_list : i < length list
    in_list = omega (arith, within, ap (λ (l : List A). length l) same)

    text_at : flat_map text (drop i list) ≡ text one ++ flat_map text (drop (i + 1) list)
    text_at = ap (λ (l : List A). flat_map text l) (from_place list i one in_list (is ∙ ap (λ (l : List A). get_or l i one) same))

    pub one_written : (u : Unit) → Wrote (change h' h'' f' f'') (Ok u) (text one) → WrittenTo h h'' f f'' (i + 1)
    one_written u v = record {
      front = w.front ++ text one;
      split = w.split ∙ ap (λ t. w.front ++ t) text_at ∙ sym (append_assoc w.front (text one) (flat_map text (drop (i + 1) list)));
      wrote = written_then h h' h'' f f' f'' tt (Ok tt) w.front (text one) w.wrote v;
    }

    pub one_failed : (e : SinkFailed) (r : Result Unit SinkFailed) → IsErr r → Wrote (change h' h'' f' f'') (Err e) (text one) → Wrote (change h h'' f f'') r (flat_map text list)
    one_failed e r bad v =
        same_text h h'' f f'' r (w.front ++ (text one ++ flat_map text (drop (i + 1) list))) (flat_map text list) (ap (λ t. w.front ++ t) (sym text_at) ∙ sym w.split)
        (written_then h h' h'' f f' f'' tt r w.front (text one ++ flat_map text (drop (i + 1) list)) w.wrote (failed_before h' h'' f' f'' e r (text one) (flat_map text (drop (i + 1) list)) bad v))

  pub all_written : (h h' : Option (List ℕ)) (f f' i : ℕ) (u : Unit) → length list ≤ i → WrittenTo h h' f f' i → Wrote (change h h' f f') (Ok u) (flat_map text list)
  all_written h h' f f' i u past w =
      same_text h h' f f' (Ok u) w.front (flat_map text list) (sym (append-nil w.front) ∙ ap (λ (l : List A). w.front ++ flat_map text l) (sym (drop_all i list past)) ∙ sym w.split) w.wrote

-- A presence field read from a body, over the slots of a mask.
use Rattle.std.proofs.Common.{◌≡◌, ℕ, ◌+◌, ◌-◌, ◌*◌, ◌/◌, ◌%◌, ◌<◌, ◌≤◌, Bool, IsTrue, List, ◌++◌, length, take, drop, get_or, sym, ◌∙◌, ap, arith, subst, length-drop}
use Rattle.std.proofs.lemmas.List.{get_or-drop}
use Rattle.ax_bits.specs.Bits.{bits}
use Rattle.ax_format.specs.Failing.{PresenceFails, IsPresence}
use Rattle.ax_format.specs.Presence.{octets_needed, none_marked, NoneUndefined, FirstUndefined, slots_past}
use Rattle.ax_format.specs.declared.fault.BodyCause.{BodyCause}
use Rattle.ax_format.specs.declared.fault.BodyCause.TheVariants.{RunsOut, UndefinedSlot, PresenceTooLong}
use Rattle.ax_format.specs.declared.fault.BodyFault.{BodyFault}
use Rattle.ax_fspec.specs.Fields.{mask_slots, MarksSlots, FailsToMark}
use Rattle.ax_fspec.specs.Marks.{seven, are_marked}
use Rattle.ax_fspec.specs.declared.mask.SlotMask.{SlotMask}
use Rattle.ax_fspec.proofs.FieldsRead.{ReadSoFar, length-marks, runs_out, undefined, too_many, read_more, read_last}
use Rattle.ax_fspec.proofs.Sets.{length-seven}
use Rattle.ax_fspec.proofs.Windows.{clear_in_mask, first_in_mask}

fails_at : (mask : SlotMask) (body : List ℕ) (at p octet bit : ℕ) (c : BodyCause) (f : BodyFault) → f ≡ record { cause = c; bit = 8 * octet + bit } → 8 * octet + bit ≡ 8 * at + p →
    PresenceFails (octets_needed mask.count) (mask_slots mask) (bits (drop at body)) p c → FailsToMark mask body at f
fails_at mask body at p octet bit c f e place h = record {
  place = p;
  fails = record { fails = subst (λ k. PresenceFails (octets_needed mask.count) (mask_slots mask) (bits (drop at body)) p k) (sym (ap (λ k. k.cause) e)) h };
  bit = ap (λ k. k.bit) e ∙ place;
}

length-front : (ds : List Bool) (octets marked : List ℕ) (i : ℕ) → ReadSoFar ds octets i marked → length (take (7 * i) marked) ≡ 7 * i
length-front ds octets marked i h = length-marks i (take (7 * i) marked) (bits (take i octets)) h.leads

pub out_of_octets : (mask : SlotMask) (body marked : List ℕ) (at i : ℕ) (f : BodyFault) → ReadSoFar (mask_slots mask) (drop at body) i marked → i < octets_needed mask.count → length body ≤ at + i →
    f ≡ record { cause = RunsOut; bit = 8 * (at + i) + 0 } → FailsToMark mask body at f
out_of_octets mask body marked at i f h lt end e =
    fails_at mask body at (8 * i) (at + i) 0 RunsOut f e (omega arith)
    (runs_out (mask_slots mask) (drop at body) marked i (octets_needed mask.count) h lt (omega (arith, length-drop at body)))

pub undefined_slot : (mask : SlotMask) (body marked : List ℕ) (at i m own j : ℕ) (f : BodyFault) → ReadSoFar (mask_slots mask) (drop at body) i marked → i < octets_needed mask.count → at + i < length body →
    m ≡ get_or body (at + i) 0 / 2 → seven own ≡ take 7 (drop (7 * i) mask.defined) → FirstUndefined (are_marked (seven own)) (seven m) j → f ≡ record { cause = UndefinedSlot; bit = 8 * (at + i) + j } →
    FailsToMark mask body at f
undefined_slot mask body marked at i m own j f h lt inside mark window first e =
    let octets = drop at body in
    let x : m ≡ get_or octets i 0 / 2 = mark ∙ ap (λ k. k / 2) (sym (get_or-drop at body i 0)) in
    let here = first_in_mask mask.count (7 * i) mask.defined (take (7 * i) marked) (seven m) (seven own) j mask.within (length-front (mask_slots mask) octets marked i h) (length-seven m) window first in
    fails_at mask body at (8 * i + j) (at + i) j UndefinedSlot f e (omega arith)
    (undefined (mask_slots mask) octets marked i (octets_needed mask.count) j h lt (omega (arith, length-drop at body))
    (subst (λ k. FirstUndefined (slots_past (take (7 * i) marked) (mask_slots mask)) (seven k) j) x here))

pub too_long_field : (mask : SlotMask) (body marked : List ℕ) (at : ℕ) (f : BodyFault) → ReadSoFar (mask_slots mask) (drop at body) (octets_needed mask.count) marked →
    f ≡ record { cause = PresenceTooLong; bit = 8 * (at + octets_needed mask.count - 1) + 7 } → FailsToMark mask body at f
too_long_field mask body marked at f h e =
    let n = octets_needed mask.count in
    let some : 1 ≤ n = omega (arith, mask.some) in
    fails_at mask body at (8 * (n - 1) + 7) (at + n - 1) 7 PresenceTooLong f e (omega arith) (too_many (mask_slots mask) (drop at body) marked n some h)

clear_here : (mask : SlotMask) (body marked : List ℕ) (at i m own : ℕ) → ReadSoFar (mask_slots mask) (drop at body) i marked → seven own ≡ take 7 (drop (7 * i) mask.defined) → NoneUndefined (are_marked (seven own)) (seven m) →
    NoneUndefined (slots_past (take (7 * i) marked) (mask_slots mask)) (seven m)
clear_here mask body marked at i m own h window clear =
    clear_in_mask mask.count (7 * i) mask.defined (take (7 * i) marked) (seven m) (seven own) mask.within (length-front (mask_slots mask) (drop at body) marked i h) (length-seven m) window clear

pub one_more : (mask : SlotMask) (body marked new : List ℕ) (at i m own : ℕ) → ReadSoFar (mask_slots mask) (drop at body) i marked → at + i < length body →
    m ≡ get_or body (at + i) 0 / 2 → get_or body (at + i) 0 % 2 ≡ 1 → seven own ≡ take 7 (drop (7 * i) mask.defined) → NoneUndefined (are_marked (seven own)) (seven m) →
    take (7 * i + 7) new ≡ take (7 * i) marked ++ seven m → IsTrue (none_marked (drop (7 * i + 7) new)) → ReadSoFar (mask_slots mask) (drop at body) (i + 1) new
one_more mask body marked new at i m own h inside mark fx window clear front following =
    let octets = drop at body in
    let same : get_or body (at + i) 0 ≡ get_or octets i 0 = sym (get_or-drop at body i 0) in
    read_more (mask_slots mask) octets marked new i m h (omega (arith, length-drop at body)) (mark ∙ ap (λ k. k / 2) same) (sym (ap (λ k. k % 2) same) ∙ fx)
    (clear_here mask body marked at i m own h window clear) front following

pub last_one : (mask : SlotMask) (body marked new : List ℕ) (at i m own : ℕ) → ReadSoFar (mask_slots mask) (drop at body) i marked → i < octets_needed mask.count → at + i < length body →
    m ≡ get_or body (at + i) 0 / 2 → get_or body (at + i) 0 % 2 ≡ 0 → seven own ≡ take 7 (drop (7 * i) mask.defined) → NoneUndefined (are_marked (seven own)) (seven m) →
    take (7 * i + 7) new ≡ take (7 * i) marked ++ seven m → IsTrue (none_marked (drop (7 * i + 7) new)) → length new ≡ 126 → MarksSlots mask body at (at + i + 1) new
last_one mask body marked new at i m own h lt inside mark fx window clear front following size =
    let octets = drop at body in
    let same : get_or body (at + i) 0 ≡ get_or octets i 0 = sym (get_or-drop at body i 0) in
    let count : i + 1 ≡ at + i + 1 - at = omega arith in
    let field = read_last (mask_slots mask) octets marked new i (octets_needed mask.count) m h lt (omega (arith, length-drop at body)) (mark ∙ ap (λ k. k / 2) same) (sym (ap (λ k. k % 2) same) ∙ fx)
    (clear_here mask body marked at i m own h window clear) front in
    record {
      begins = omega arith;
      within = omega arith;
      field = record {
        octets = i + 1;
        field = subst (λ k. IsPresence (octets_needed mask.count) (mask_slots mask) (take (7 * (i + 1)) new) (bits (take k octets))) count field;
        no_other = subst (λ k. IsTrue (none_marked (drop k new))) (let e : 7 * i + 7 ≡ 7 * (i + 1) = omega arith in e) following;
      };
      size = size;
    }

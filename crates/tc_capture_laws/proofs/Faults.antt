-- A fault that needs more bytes says how many are there, and how many are needed.
use Rattle.std.proofs.Common.{◌≡◌, ℕ, ◌+◌, ◌-◌, ◌%◌, ◌<◌, List, length, drop, Option, Some, None, Ok, Err, Bool, true, false, refl, subst}
use Rattle.std.specs.Prelude.{nat_lt, ◌==◌, if◌then◌else◌}
use Rattle.std.proofs.lemmas.Bool.{ltb-true}
use Rattle.tc_capture.specs.declared.error.CaptureError.{CaptureError}
use Rattle.tc_capture.specs.declared.error.CaptureError.TheVariants.{Short, MessageTooShort, NoByteOrder, BlockLength}
use Rattle.tc_capture.specs.declared.order.Order.{Order}
use Rattle.tc_capture.specs.declared.order.Order.TheVariants.{Little, Big}
use Rattle.tc_capture.specs.declared.pcap.Pcap.{Pcap as PcapFile}
use Rattle.tc_capture.specs.declared.pcap.Variant.{Variant}
use Rattle.tc_capture.specs.declared.time.Time.{Time}
use Rattle.tc_capture.specs.Outcome.{Outcome, then_read}
use Rattle.tc_capture.specs.Order.{number}
use Rattle.tc_capture.specs.Message.{length_at, padding}
use Rattle.tc_capture.specs.Front.{Front}
use Rattle.tc_capture.specs.Stream.{next_in_stream}
use Rattle.tc_capture.specs.Pcap.{magic_at, header_with, record_header_len, pcap_header, next_in_pcap}
use Rattle.tc_capture.specs.PcapNg.{Section, order_at, block_order, block_in, next_block, next_in_section}
use Rattle.tc_capture.specs.Capture.{State, in_stream, before_header, in_pcap, in_section, next_piece}

module _ (bytes : List ℕ) where
  -- what it says is so
  abbrev IsTrueOf : CaptureError → Type 0
  IsTrueOf (Short needed left) = (left ≡ length bytes) × (left < needed)
  IsTrueOf _ = Unit {0}

  abbrev IsFair : {X : Type 0} → Outcome X → Type 0
  IsFair (Ok x) = Unit {0}
  IsFair (Err e) = IsTrueOf e

  then-fair : {X Y : Type 0} (o : Outcome X) (f : X → Outcome Y) → IsFair o → ((x : X) → IsFair (f x)) → IsFair (then_read o f)
  then-fair (Ok x) f fair each = each x
  then-fair (Err e) f fair each = fair

  test-fair : {X : Type 0} (b : Bool) (e : CaptureError) (o : Outcome X) → IsTrueOf e → IsFair o → IsFair (if b then Err e else o)
  test-fair true e o here later = here
  test-fair false e o here later = later

  there-fair : {X : Type 0} (k : ℕ) (o : Outcome X) (b : Bool) → nat_lt (length bytes) k ≡ b → IsFair o
      → IsFair (if nat_lt (length bytes) k then Err (Short k (length bytes)) else o)
  there-fair k o true is later = rw is (refl, ltb-true (length bytes) k is)
  there-fair k o false is later = rw is later

  choice-fair : {X : Type 0} (b : Bool) (o p : Outcome X) → IsFair o → IsFair p → IsFair (if b then o else p)
  choice-fair true o p first second = first
  choice-fair false o p first second = second

  stream-fair : (time : Option Time) → IsFair (next_in_stream time bytes)
  unfolding next_in_stream
  stream-fair time =
      there-fair 16 _ _ refl (test-fair (nat_lt (length_at bytes) 16) (MessageTooShort (length_at bytes)) _ tt
      (there-fair (length_at bytes + padding (length_at bytes)) _ _ refl tt))

  pcap-fair : (file : PcapFile) → IsFair (next_in_pcap file bytes)
  unfolding next_in_pcap
  pcap-fair file =
      there-fair (record_header_len file.variant) _ _ refl
      (there-fair (record_header_len file.variant + number file.order 4 (drop 8 bytes)) _ _ refl tt)

  header-fair : IsFair (pcap_header bytes)
  unfolding pcap_header
  header-fair = there-fair 24 _ _ refl (by (magic_at bytes))
    where
      by : (magic : Option (Order × Variant)) → IsFair (header_with magic bytes)
      by None = tt
      by (Some magic) = tt

  order-fair : (order : Order) → IsFair (block_order order bytes)
  order-fair order =
      choice-fair (number Little 4 bytes == 0x0a0d0d0a) (order_at bytes) (Ok order)
      (choice-fair (number Little 4 (drop 8 bytes) == 0x1a2b3c4d) (Ok Little) _ tt
      (choice-fair (number Big 4 (drop 8 bytes) == 0x1a2b3c4d) (Ok Big) (Err NoByteOrder) tt tt)) tt

  block-fair : (order : Order) → IsFair (block_in order bytes)
  unfolding block_in
  block-fair order =
      let l = number order 4 (drop 4 bytes) in
      test-fair (nat_lt l 12) (BlockLength l) _ tt (test-fair (nat_lt 0 (l % 4)) (BlockLength l) _ tt (there-fair l _ _ refl
      (choice-fair (number order 4 (drop (l - 4) bytes) == l) _ _ tt tt)))

  next-block-fair : (order : Order) → IsFair (next_block order bytes)
  unfolding next_block
  next-block-fair order = there-fair 12 _ _ refl (then-fair (block_order order bytes) (λ o. block_in o bytes) (order-fair order) (λ o. block-fair o))

  section-fair : (s : Section) → IsFair (next_in_section s bytes)
  unfolding next_in_section
  section-fair s = then-fair (next_block s.order bytes) _ (next-block-fair s.order) (λ b. tt)

  piece-fair : (s : State) → IsFair (next_piece s bytes)
  piece-fair (in_stream time) = then-fair (next_in_stream time bytes) _ (stream-fair time) (λ x. tt)
  piece-fair before_header = then-fair (pcap_header bytes) _ header-fair (λ file. tt)
  piece-fair (in_pcap file) = then-fair (next_in_pcap file bytes) _ (pcap-fair file) (λ front. tt)
  piece-fair (in_section s) = then-fair (next_in_section s bytes) _ (section-fair s) (λ x. tt)

  pub next_piece-Short : (s : State) (needed left : ℕ) → next_piece s bytes ≡ Err (Short needed left) → (left ≡ length bytes) × (left < needed)
  next_piece-Short s needed left is = subst (λ (o : Outcome (Front × State)). IsFair o) is (piece-fair s)

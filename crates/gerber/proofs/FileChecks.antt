-- The file's checks as the code makes them are document 02's: version and pitch first, and then centres and room in turn.
use mathlib.Core.Path.{◌≡◌, sym, ap, ◌∙◌}
use mathlib.Core.Bool.{true, false}
use mathlib.Core.List.{List, [], ◌∷◌}
use Prim.Native.Nat.{ℕ, ◌≤◌}
use native.Mathlib.Omega.{arith}
use lib.Dec.{leb}
use lib.IntN.{ℤ}
use lib.ListN.{length, length-map}
use borrow.Author.Tests.{leb-true}
use Rattle.lists.specs.Lists.{up_to}
use Rattle.lists.proofs.Ranges.{length_from}
use Rattle.grid.specs.Limits.{file_room_size}
use Rattle.grid.specs.Answers.{done, refused, check, first_refusal, answer_of, answered, version_unknown, pitch_out, centre_out, file_room_short}
use Rattle.grid.specs.Squares.{Rectangle}
use Rattle.grid.specs.declared.answers.Answer.{Answer}
use Rattle.grid.specs.declared.answers.Refusal.{Refusal}
use Rattle.grid.proofs.Chain.{Passes, chain-passed, passed-chain, chain-stops, chain-goes-on, check-goes-on, check-stops, check-passed, passed-check}
use Rattle.std.specs.Prelude.{Result, Ok, Err}
use Rattle.cover.specs.Records.{flash_in, flashes_in}
use Rattle.gerber.specs.File.{version_known, pitch_fits, format_checks, centres_fit, gerber_file}
use Rattle.gerber.specs.Writing.{file_checks}
use Rattle.gerber.specs.Code.{FlashesHeld}
use Rattle.gerber.proofs.GridSizes.{held-drawn}
use Rattle.gerber.proofs.Longest.{longest_file, longest-fits, file-most}

module _ (version pitch : ℕ) where
  pub format_passes : version_known version ≡ true → pitch_fits pitch ≡ true → Passes (first_refusal (format_checks version pitch))
  format_passes v p =
      ap (λ (a : Answer). a.number) (passed-chain (format_checks version pitch) (passed-check (version_known version) version_unknown v, (passed-check (pitch_fits pitch) pitch_out p, tt)))

module _ (version pitch : ℕ) (x y : ℤ) (qs : List Rectangle) (room : ℕ) where
  abbrev rest_checks : List Answer
  rest_checks = check (centres_fit pitch x y qs) centre_out ∷ check (leb file_room_size room) file_room_short ∷ []

  -- as the code makes them, each behind those before
  module _ {T : Type 0} {r : Result T Refusal} (e : answered r ≡ first_refusal (format_checks version pitch)) where
    pub format-stops : {s : Refusal} → r ≡ Err s → answer_of s ≡ first_refusal (file_checks version pitch x y qs room)
    format-stops q = chain-stops (format_checks version pitch) rest_checks e q

    module _ {t : T} (q : r ≡ Ok t) where
      pub centre-stops : centres_fit pitch x y qs ≡ false → refused centre_out ≡ first_refusal (file_checks version pitch x y qs room)
      centre-stops f = sym (chain-goes-on (format_checks version pitch) rest_checks e q ∙ check-stops (centres_fit pitch x y qs) 13 _ f)

      pub room-stops : centres_fit pitch x y qs ≡ true → leb file_room_size room ≡ false → refused file_room_short ≡ first_refusal (file_checks version pitch x y qs room)
      room-stops c f = sym (chain-goes-on (format_checks version pitch) rest_checks e q ∙ check-goes-on (centres_fit pitch x y qs) 14 _ c ∙ check-stops (leb file_room_size room) 14 [] f)

      pub all-pass : centres_fit pitch x y qs ≡ true → leb file_room_size room ≡ true → done ≡ first_refusal (file_checks version pitch x y qs room)
      unfolding first_refusal
      all-pass c f =
          sym (chain-goes-on (format_checks version pitch) rest_checks e q ∙ check-goes-on (centres_fit pitch x y qs) 14 (check (leb file_room_size room) file_room_short ∷ []) c
          ∙ check-goes-on (leb file_room_size room) 15 [] f)

  -- what passes them all
  pub checks-passed : Passes (first_refusal (file_checks version pitch x y qs room)) → (pitch_fits pitch ≡ true) × (centres_fit pitch x y qs ≡ true) × (file_room_size ≤ room)
  checks-passed p =
      let all = chain-passed (file_checks version pitch x y qs room) p in
      (check-passed (pitch_fits pitch) 12 all.1.0, check-passed (centres_fit pitch x y qs) 13 all.1.1.0, leb-true file_room_size room (check-passed (leb file_room_size room) 14 all.1.1.1.0))

listed : (n : ℕ) (records : List ℕ) → length (flashes_in n records) ≡ n
unfolding flashes_in
listed n records = length-map (up_to n) (flash_in records) ∙ length_from 0 n

module _ (version pitch : ℕ) (x y : ℤ) (n : ℕ) (records : List ℕ) (room : ℕ) (h : FlashesHeld n records) (p : Passes (first_refusal (file_checks version pitch x y (flashes_in n records) room))) where
  -- and then the file is no longer than the formula says,
  pub file-short : length (gerber_file version pitch x y (flashes_in n records)) ≤ longest_file
  file-short =
      let c = checks-passed version pitch x y (flashes_in n records) room p in
      let few = h.few in
      file-most version pitch x y (flashes_in n records) c.0 (omega (arith, listed n records)) (held-drawn n records h) c.1

  -- so that there is room for it
  pub file-fits : length (gerber_file version pitch x y (flashes_in n records)) ≤ room
  file-fits = omega (arith, file-short, longest-fits, (checks-passed version pitch x y (flashes_in n records) room p).2)

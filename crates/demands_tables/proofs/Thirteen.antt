-- With thirteen keys the replies differ: by computation on the dictionaries, which reply as the table does.
-- Assumes nothing.
use Prim.Native.Nat.{ℕ}
use mathlib.Core.Bool.{true}
use mathlib.Core.List.{List, [], ◌∷◌}
use mathlib.Core.Path.{◌≡◌, refl, sym, ap, ◌∙◌}
use native.Mathlib.Omega.{arith}
use lib.ListN.{get_or}
use Rattle.field.specs.Field.{bit_at, field, twos, signed_of}
use Rattle.layout.specs.Layout.{all_take, decode_all, zero_from}
use Rattle.layout.specs.Layout as layouts
use Rattle.layout_tables.specs.Layouts.{layout_of, layout1025}
use Rattle.message_rows.specs.Message.{layout, refusal}
use Rattle.table_slots.specs.Slots.{is_owner, key_of}
use Rattle.table_history.specs.History.{fresh, Call, calls_of, Reply, replies}
use Rattle.table_history.specs.Dict.{stored_under, without, is_new, free_number, free_shown, changed, free_after, total, full, dict_number, dict_shown, changed_for, dict_after, dictionaries}
use Rattle.table_history.specs.Isolation.{of_owner, replies_to, at_most, none}
use Rattle.table_index_history.specs.Calls.{fresh_both, indexed, byte_ask, byte_calls}
use Rattle.table_index_history.proofs.Histories.{same, fresh-agrees}
use Rattle.demands_tables.specs.Isolation.{projection, stores, alone, beside_twenty, ThirteenFail}
use Rattle.table_history.proofs.Replies.{same-replies}
use Rattle.table_history.proofs.Isolation.{fresh-same}

answers : List Reply → List ℕ
answers [] = []
answers (r ∷ rs) = r.answer ∷ answers rs

-- the thirteenth number that owner 1 gets, by the dictionaries and by the table
last : List Call → ℕ
last cs = get_or (answers (of_owner 1 cs (replies dictionaries none cs))) 12 0

last-is : (cs : List Call) → byte_calls cs ≡ true → get_or (answers (replies_to indexed 1 fresh_both cs)) 12 0 ≡ last cs
unfolding replies_to last answers
last-is cs h =
    ap (λ (rs : List Reply). get_or (answers (of_owner 1 cs rs)) 12 0) ((same cs fresh_both fresh-agrees h).answers ∙ same-replies cs fresh none fresh-same)

bytes-alone : byte_calls alone ≡ true
unfolding byte_calls byte_ask alone stores
bytes-alone = refl

bytes-beside : byte_calls beside_twenty ≡ true
unfolding byte_calls byte_ask beside_twenty stores
bytes-beside = refl

alone-last : last alone ≡ 0
unfolding refusal layout layout_of layout1025 layouts.total zero_from decode_all all_take field bit_at twos signed_of key_of stored_under without is_new free_number free_shown changed free_after is_owner total full dict_number dict_shown changed_for dict_after replies of_owner last answers alone beside_twenty stores projection
alone-last = refl

beside-twenty-last : last beside_twenty ≡ 16
unfolding refusal layout layout_of layout1025 layouts.total zero_from decode_all all_take field bit_at twos signed_of key_of stored_under without is_new free_number free_shown changed free_after is_owner total full dict_number dict_shown changed_for dict_after replies of_owner last answers alone beside_twenty stores projection
beside-twenty-last = refl

asked : at_most 13 [] (calls_of 1 alone) ≡ true
unfolding refusal layout layout_of layout1025 layouts.total zero_from decode_all all_take field bit_at twos signed_of key_of stored_under without is_new free_number free_shown changed free_after calls_of at_most alone stores projection
asked = refl

pub thirteen-fail : ThirteenFail
unfolding calls_of alone beside_twenty stores
thirteen-fail =
    record {
      calls = refl;
      asked = asked;
      differ = λ e. (let z : ◌≡◌ {A = ℕ} 0 16 = sym (last-is alone bytes-alone ∙ alone-last) ∙ ap (λ (rs : List Reply). get_or (answers rs) 12 0) e ∙ last-is beside_twenty bytes-beside ∙ beside-twenty-last in omega arith);
    }

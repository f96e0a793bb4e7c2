use Rattle.std.proofs.Common.{◌≡◌, ◌++◌, subst}
use Rattle.image.specs.Bytes.{Second, handler_bytes, numbers_bytes, release_bytes, room_bytes, time_bytes}
use Rattle.image_format.specs.Numbers.{name_bytes}
use Rattle.image_format.specs.TreeBytes.{tree_bytes}
use Rattle.image.specs.Raw.{process_of}
use Rattle.image.proofs.Chain.{after}
use Rattle.image.proofs.parts.put_process.Goals as goal

pub returns : goal.returns
returns c =
    let p = process_of c.args.process.now in
    let handler = handler_bytes p.numbers p.handler_tree in
    let body = tree_bytes p.body ++ handler in
    let numbers = numbers_bytes p.numbers ++ body in
    let room = room_bytes p ++ numbers in
    let time = time_bytes p ++ room in
    let release = release_bytes Second p ++ time in
    let end = c.put_handler.new.out.items in
    let numbers_put : c.put_numbers.new.out.items ≡ c.put_room.new.out.items ++ numbers_bytes p.numbers =
    subst (λ ns. c.put_numbers.new.out.items ≡ c.put_room.new.out.items ++ numbers_bytes ns) c.as_slice.ensures c.in_ok-put_numbers.ensures in
    after (name_bytes c.args.name.now) release c.args.out.now.items c.put_name.new.out.items end c.in_ok-put_name.ensures
    (after (release_bytes Second p) time c.put_name.new.out.items c.put_release.new.out.items end c.in_ok-put_release.ensures
    (after (time_bytes p) room c.put_release.new.out.items c.put_time.new.out.items end c.in_ok-put_time.ensures
    (after (room_bytes p) numbers c.put_time.new.out.items c.put_room.new.out.items end c.in_ok-put_room.ensures
    (after (numbers_bytes p.numbers) body c.put_room.new.out.items c.put_numbers.new.out.items end numbers_put
    (after (tree_bytes p.body) handler c.put_numbers.new.out.items c.put_tree.new.out.items end c.in_ok-put_tree.ensures c.in_ok-put_handler.ensures)))))

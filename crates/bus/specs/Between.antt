-- What a call sends between START and STOP, by how it ended.
use Rattle.std.specs.Prelude.{ℕ, true, false, List, ◌++◌, length, Ok, Err, Result}
use Rattle.bus.specs.declared.sender.PutFault.{PutFault}
use Rattle.bus.specs.declared.sender.PutFault.TheVariants as put
use Rattle.bus.specs.declared.sender.ReadFault.{ReadFault}
use Rattle.bus.specs.declared.sender.ReadFault.TheVariants as read
use Rattle.bus.specs.Frames.{Beat, repeat_frame, byte_frame, taken_bytes, write_address, read_address}

abbrev pub put_bytes : ℕ → ℕ → ℕ → Result (Unit {0}) PutFault → List Beat
put_bytes a r x (Ok u) = byte_frame (write_address a) true ++ (byte_frame r true ++ byte_frame x true)
put_bytes a r x (Err put.Address) = byte_frame (write_address a) false
put_bytes a r x (Err put.Register) = byte_frame (write_address a) true ++ byte_frame r false
put_bytes a r x (Err put.Data) = byte_frame (write_address a) true ++ (byte_frame r true ++ byte_frame x false)

abbrev pub read_bytes : ℕ → ℕ → List ℕ → Result (Unit {0}) ReadFault → List Beat
read_bytes a r ns (Ok u) = byte_frame (write_address a) true ++ (byte_frame r true ++ (repeat_frame ++ (byte_frame (read_address a) true ++ taken_bytes ns (length ns))))
read_bytes a r ns (Err read.Address) = byte_frame (write_address a) false
read_bytes a r ns (Err read.Register) = byte_frame (write_address a) true ++ byte_frame r false
read_bytes a r ns (Err read.Repeat) = byte_frame (write_address a) true ++ (byte_frame r true ++ (repeat_frame ++ byte_frame (read_address a) false))

-- What a host is handed for where a data set starts: code 0 and the place; 15, 16 or 17 and 0.
use Rattle.basics.specs.Fields.{Fields}
use Rattle.c_files.specs.declared.Part.{Part}

abbrev pub part_of : Fields → Part
part_of a = record { code = a.code; start = a.offset }
